use Rattle.amr_bits.proofs.Runs.{length-run}
use Rattle.amr_bits.proofs.slice.BitSlice.len.Goals as goal

pub returns-clause-bits : goal.returns-clause-bits
returns-clause-bits c = length-run c.args.self.now.octets.now c.args.self.now.start c.args.self.now.len
