use Rattle.segment_laws.proofs.Accepting.{alone_is_one, alone_reception}
use Rattle.segment_laws.proofs.one.refused_packets_change_nothing.Goals as goal

pub returns : goal.returns
returns c = record { one = alone_is_one; same = alone_reception }
