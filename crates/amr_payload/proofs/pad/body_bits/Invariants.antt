use Rattle.std.proofs.Common.{◌≡◌, ◌+◌, ◌*◌, ◌≤◌, length, drop}
use Rattle.amr_be.specs.Parts.{body_part}
use Rattle.amr_toc.specs.Viewed.{said}
use Rattle.amr_payload.proofs.pad.body_bits.Given as goal

abbrev pub invariant-loop-at : goal.invariant-loop-at
invariant-loop-at l =
    (l.bits + length (body_part (drop l.at (said l.view).frames)) ≡ length (body_part (said l.view).frames))
    × (l.bits ≤ 477 * l.at)
