use Rattle.segment_laws.proofs.Counting.{same_reception}
use Rattle.segment_laws.proofs.one.one_segment_is_a_session.Goals as goal

pub returns : goal.returns
returns c = same_reception
