use Rattle.session_laws.proofs.Sessions.{released_grows, released_stays}
use Rattle.session_laws.proofs.release.what_is_released_stays.Goals as goal

pub returns : goal.returns
returns c = record { all = released_stays; up_to = released_grows }
