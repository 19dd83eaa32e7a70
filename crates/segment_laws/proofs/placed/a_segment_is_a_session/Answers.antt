use Rattle.segment_laws.proofs.Alone.{alone_of}
use Rattle.segment_laws.proofs.placed.a_segment_is_a_session.Goals as goal

pub returns : goal.returns
returns c = alone_of
