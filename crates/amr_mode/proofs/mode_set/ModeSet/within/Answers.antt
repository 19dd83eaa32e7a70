use Rattle.std.proofs.Common.{arith}
use Rattle.amr_mode.proofs.Sets.{within_is}
use Rattle.amr_mode.proofs.mode_set.ModeSet.within.Goals as goal

pub returns : goal.returns
returns c = within_is c.args.self.now c.args.other.now (omega arith) (omega arith)
