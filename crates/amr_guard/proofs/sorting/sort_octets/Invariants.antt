use Rattle.std.proofs.Common.{◌≡◌, length, sum}
use Rattle.amr_guard.proofs.Walks.{Walks}
use Rattle.amr_guard.specs.Walking.{AgreeUpTo}
use Rattle.amr_guard.proofs.sorting.sort_octets.Given as goal

abbrev pub invariant-loop-at : goal.invariant-loop-at
invariant-loop-at l =
    (length l.out ≡ sum l.lengths) × Walks l.lengths l.walk.frame l.walk.octet l.places l.at × AgreeUpTo l.lengths
    l.plain l.out l.at
