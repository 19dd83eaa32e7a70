use Rattle.std.proofs.Common.{◌≡◌, ◌+◌, ◌*◌, ◌≤◌, length, drop}
use Rattle.amr_frame.specs.Blocks.{frames_of}
use Rattle.amr_oa.specs.Written.{plain_part}
use Rattle.amr_oa.proofs.body.body_octets.Given as goal

abbrev pub invariant-loop-cell : goal.invariant-loop-cell
invariant-loop-cell l =
    (l.octets + length (plain_part (frames_of (drop l.cell-index l.cells))) ≡ length (plain_part (frames_of l.cells)))
    × (l.octets ≤ 60 * l.cell-index)
