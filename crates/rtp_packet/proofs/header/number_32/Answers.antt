use Rattle.std.proofs.Common.{sym, arith}
use Rattle.rtp_packet.proofs.Octets.{four_octets}
use Rattle.rtp_packet.proofs.header.number_32.Goals as goal

pub returns : goal.returns
returns c = sym (four_octets c.args.octets.now c.args.at (λ k. omega (arith, c.type_inv.octets k)))
