use Rattle.std.proofs.Common.{◌≡◌, ◌+◌, ◌*◌, ◌≤◌, length, drop}
use Rattle.amr_be.specs.Parts.{body_part}
use Rattle.amr_frame.specs.Blocks.{frames_of}
use Rattle.amr_be.proofs.write.body_bits.Given as goal

abbrev pub invariant-loop-cell : goal.invariant-loop-cell
invariant-loop-cell l =
    (l.bits + length (body_part (frames_of (drop l.cell-index l.cells))) ≡ length (body_part (frames_of l.cells)))
    × (l.bits ≤ 480 * l.cell-index)
