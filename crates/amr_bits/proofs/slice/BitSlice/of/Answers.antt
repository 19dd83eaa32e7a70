use Rattle.std.proofs.Common.{arith}
use Rattle.amr_bits.proofs.Runs.{run-is_part}
use Rattle.amr_bits.proofs.slice.BitSlice.of.Goals as goal

pub returns-then-start-len-clause-bits : goal.returns-then-start-len-clause-bits
returns-then-start-len-clause-bits c = run-is_part c.args.octets.now c.args.start c.args.len (omega arith)
