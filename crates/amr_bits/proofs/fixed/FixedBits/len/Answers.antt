use Rattle.amr_bits.proofs.Runs.{length-run}
use Rattle.amr_bits.proofs.fixed.FixedBits.len.Goals as goal

pub returns-clause-bits : goal.returns-clause-bits
returns-clause-bits g c = length-run c.args.self.now.octets 0 c.args.self.now.len
