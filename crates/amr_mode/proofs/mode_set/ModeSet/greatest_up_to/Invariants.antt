use Rattle.std.proofs.Common.{◌+◌}
use Rattle.amr_mode.proofs.Nearest.{Without}
use Rattle.amr_mode.specs.Members.{members}
use Rattle.amr_mode.proofs.mode_set.ModeSet.greatest_up_to.Given as goal

abbrev pub invariant-loop-mode : goal.invariant-loop-mode
invariant-loop-mode l = Without (members l.self) l.mode (l.limit + 1)
