use Rattle.segment_laws.proofs.Placing.{segments_of}
use Rattle.segment_laws.proofs.placed.a_packet_has_one_place_in_its_segment.Goals as goal

pub returns : goal.returns
returns c = segments_of
