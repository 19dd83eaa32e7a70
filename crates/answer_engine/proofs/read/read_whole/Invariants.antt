use Rattle.std.proofs.Common.{◌≡◌, ◌-◌}
use Rattle.answer_engine.proofs.Filled.{SoFar}
use Rattle.answer_engine.proofs.read.read_whole.Given as goal

abbrev pub invariant-reading : goal.invariant-reading
invariant-reading g l = record {
  so_far : SoFar (g.I.Source.left l.initial.input) (g.I.Source.left l.input) l.initial.inlet.limit l.inlet;
  calm : g.I.Source.faults l.input ≡ g.I.Source.faults l.initial.input;
}

abbrev pub decreases-reading : goal.decreases-reading
decreases-reading g l = l.inlet.limit - l.inlet.taken
