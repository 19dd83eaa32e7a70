use Rattle.return_laws.proofs.Accepted.{accepted_recorded}
use Rattle.return_laws.proofs.same_files.accepted_packets_are_recorded_the_same.Goals as goal

pub returns : goal.returns
returns c = accepted_recorded
