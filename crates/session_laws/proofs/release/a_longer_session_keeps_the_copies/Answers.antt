use Rattle.session_laws.proofs.Sessions.{goes_on_from}
use Rattle.session_laws.proofs.release.a_longer_session_keeps_the_copies.Goals as goal

pub returns : goal.returns
returns c = goes_on_from
