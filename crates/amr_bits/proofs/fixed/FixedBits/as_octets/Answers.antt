use Rattle.std.proofs.Common.{arith}
use Rattle.amr_bits.proofs.Equal.{front_filled}
use Rattle.amr_bits.proofs.fixed.FixedBits.as_octets.Goals as goal

pub returns-clause-bits : goal.returns-clause-bits
returns-clause-bits g c = front_filled c.args.self.now.octets c.args.self.now.len c.octets_needed.result (omega arith) c.octets_needed.ensures c.are_octets.ensures c.args.self.now.clear
