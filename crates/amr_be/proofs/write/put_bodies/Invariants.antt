use Rattle.std.proofs.Common.{◌≡◌, ◌+◌, length, drop}
use Rattle.amr_be.specs.Parts.{body_part}
use Rattle.amr_frame.specs.Blocks.{frames_of}
use Rattle.amr_toc.proofs.Writing.{Between}
use Rattle.amr_be.proofs.write.put_bodies.Given as goal

abbrev pub invariant-loop-cell : goal.invariant-loop-cell
invariant-loop-cell l =
    (l.at.written + length (body_part (frames_of (drop l.cell-index l.cells))) ≡ l.initial.at.written + length (body_part (frames_of l.cells)))
    × Between l.initial.out l.initial.at.written (body_part (frames_of l.cells)) l.out l.at.written (body_part (frames_of (drop l.cell-index l.cells))) l.cell-index
