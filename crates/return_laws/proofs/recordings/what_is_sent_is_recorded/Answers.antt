use Rattle.return_laws.proofs.Recorded.{sent_recorded}
use Rattle.return_laws.proofs.recordings.what_is_sent_is_recorded.Goals as goal

pub returns : goal.returns
returns c = sent_recorded
