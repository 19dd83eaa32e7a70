use Rattle.std.proofs.Common.{◌≡◌, replicate}
use Rattle.circular_buffer.specs.Buffer.{buffer}
use Rattle.amr_playout.proofs.ring.absent_ring.Given as goal

abbrev pub invariant-loop-at : goal.invariant-loop-at
invariant-loop-at l = l.ring ≡ buffer (replicate l.at l.none) l.cells
