use Rattle.store_laws.proofs.Showing.{blocks_stay}
use Rattle.store_laws.proofs.fronts.whole_blocks_stay.Goals as goal

pub returns : goal.returns
returns c = blocks_stay
