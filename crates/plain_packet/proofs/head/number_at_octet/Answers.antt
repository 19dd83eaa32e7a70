use Rattle.std.proofs.Common.{sym, arith}
use Rattle.rtp_packet.proofs.Octets.{four_octets}
use Rattle.plain_packet.proofs.head.number_at_octet.Goals as goal

pub returns : goal.returns
returns c = sym (four_octets c.args.room.now c.args.at (λ k. omega (arith, c.type_inv.room k)))
