use Rattle.std.proofs.Common.{◌≡◌, ◌≢◌}
use Rattle.amr_io.specs.declared.gate.Gate.TheVariants as gate
use Rattle.amr_io.proofs.tests.four_fills.Given as goal

abbrev pub invariant-loop-i : goal.invariant-loop-i
invariant-loop-i l = (l.inlet.size ≡ 8) × (l.inlet.gate ≢ gate.Spent)
