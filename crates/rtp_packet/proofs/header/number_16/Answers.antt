use Rattle.std.proofs.Common.{◌+◌, sym, arith}
use Rattle.rtp_packet.proofs.Octets.{two_octets}
use Rattle.rtp_packet.proofs.header.number_16.Goals as goal

pub returns : goal.returns
returns c = sym (two_octets c.args.octets.now c.args.at (omega (arith, c.type_inv.octets c.args.at)) (omega (arith, c.type_inv.octets (c.args.at + 1))))
