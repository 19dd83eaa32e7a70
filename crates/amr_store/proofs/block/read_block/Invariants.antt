use Rattle.std.specs.Prelude.{length}
use Rattle.amr_store.proofs.FrameRead.{Filling}
use Rattle.amr_store.proofs.block.read_block.Given as goal

abbrev pub invariant-loop-k : goal.invariant-loop-k
invariant-loop-k l = Filling l.codec l.octets (length l.initial.cells) l.at l.k l.cells
