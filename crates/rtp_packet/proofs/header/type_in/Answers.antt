use Rattle.std.proofs.Common.{[], ◌∷◌, sym, arith}
use Rattle.rtp_packet.proofs.Octets.{low_seven}
use Rattle.rtp_packet.proofs.header.type_in.Goals as goal

pub returns : goal.returns
returns c = sym (low_seven (0 ∷ c.args.second ∷ []) (omega arith))
