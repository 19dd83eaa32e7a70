use Rattle.amr_bits.proofs.Places.{shifts_join}
use Rattle.std.proofs.Common.{arith}
use Rattle.amr_bits.proofs.copying.across.Goals as goal

pub returns : goal.returns
returns c = shifts_join c.args.shift c.args.first c.args.second c.requires.shift.above c.requires.shift.below (omega arith) (omega arith)
