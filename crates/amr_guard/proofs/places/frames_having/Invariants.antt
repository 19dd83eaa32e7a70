use Rattle.std.proofs.Common.{◌≡◌, ◌≤◌, ltb, take}
use Rattle.std.specs.List.{count_by}
use Rattle.amr_guard.proofs.places.frames_having.Given as goal

abbrev pub invariant-loop-length : goal.invariant-loop-length
invariant-loop-length l = (l.total ≡ count_by (λ x. ltb l.octet x) (take l.length-index l.lengths)) × (l.total ≤ l.length-index)
