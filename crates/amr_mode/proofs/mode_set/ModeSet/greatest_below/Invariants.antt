use Rattle.amr_mode.proofs.Nearest.{Without}
use Rattle.amr_mode.specs.Members.{members}
use Rattle.amr_mode.proofs.mode_set.ModeSet.greatest_below.Given as goal

abbrev pub invariant-loop-next : goal.invariant-loop-next
invariant-loop-next l = Without (members l.self) l.next l.mode
