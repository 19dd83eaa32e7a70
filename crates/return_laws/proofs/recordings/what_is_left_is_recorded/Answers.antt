use Rattle.return_laws.proofs.Recorded.{left_recorded}
use Rattle.return_laws.proofs.recordings.what_is_left_is_recorded.Goals as goal

pub returns : goal.returns
returns c = left_recorded
