use Rattle.store_laws.proofs.Showing.{shown_stays}
use Rattle.store_laws.proofs.fronts.what_is_shown_stays.Goals as goal

pub returns : goal.returns
returns c = shown_stays
