use Rattle.amr_bits.proofs.Equal.{octet_is}
use Rattle.amr_bits.proofs.fixed.FixedBits.octet.Goals as goal

pub returns-clause-bits : goal.returns-clause-bits
returns-clause-bits g c = octet_is c.args.self.now.octets c.args.self.now.len c.args.at c.are_octets.ensures c.args.self.now.clear
