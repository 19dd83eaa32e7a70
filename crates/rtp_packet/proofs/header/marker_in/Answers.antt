use Rattle.std.proofs.Common.{[], ◌∷◌, arith}
use Rattle.rtp_packet.proofs.Octets.{top_bit}
use Rattle.rtp_packet.proofs.header.marker_in.Goals as goal

pub returns : goal.returns
returns c = top_bit (0 ∷ c.args.second ∷ []) (omega arith)
