use Rattle.std.proofs.Common.{arith}
use Rattle.rtp_packet.proofs.Small.{are_of}
use Rattle.rtp_packet.proofs.fit.are_octets.Goals as goal

pub returns : goal.returns
returns c = are_of c.args.octets.now (λ i. omega (arith, c.type_inv.octets i))
