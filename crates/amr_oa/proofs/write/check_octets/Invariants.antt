use Rattle.std.proofs.Common.{◌≡◌, ◌+◌, ◌≤◌, length, drop}
use Rattle.amr_frame.specs.Blocks.{frames_of}
use Rattle.amr_oa.specs.Written.{checks_part}
use Rattle.amr_oa.proofs.write.check_octets.Given as goal

abbrev pub invariant-loop-cell : goal.invariant-loop-cell
invariant-loop-cell l =
    (l.checks + length (checks_part l.profile (frames_of (drop l.cell-index l.cells))) ≡ length (checks_part l.profile (frames_of l.cells)))
    × (l.checks ≤ l.cell-index)
