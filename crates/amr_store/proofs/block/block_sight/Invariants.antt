use Rattle.amr_store.specs.Sights.{HoldsFrames}
use Rattle.amr_store.proofs.block.block_sight.Given as goal

abbrev pub invariant-loop-frame : goal.invariant-loop-frame
invariant-loop-frame l = HoldsFrames l.codec l._frame l.octets l.at
