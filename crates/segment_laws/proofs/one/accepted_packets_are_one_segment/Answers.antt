use Rattle.segment_laws.proofs.Accepting.{one_segment}
use Rattle.segment_laws.proofs.one.accepted_packets_are_one_segment.Goals as goal

pub returns : goal.returns
returns c = one_segment
