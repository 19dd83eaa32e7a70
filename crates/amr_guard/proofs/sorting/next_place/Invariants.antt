use Rattle.std.proofs.Common.{◌-◌, length}
use Rattle.amr_guard.proofs.Walks.{Walks}
use Rattle.amr_guard.specs.Sorting.{plain_place}
use Rattle.amr_guard.proofs.sorting.next_place.Given as goal

abbrev pub invariant-loop-walk : goal.invariant-loop-walk
invariant-loop-walk l =
    Walks l.lengths l.walk.frame l.walk.octet l.places (plain_place l.lengths l.initial.walk.frame l.initial.walk.octet)

abbrev pub decreases-loop-walk : goal.decreases-loop-walk
decreases-loop-walk l = length l.lengths - l.walk.frame
