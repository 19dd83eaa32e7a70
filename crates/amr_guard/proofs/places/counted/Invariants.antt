use Rattle.std.proofs.Common.{◌≡◌, ◌≤◌, ℕ, eqb, take, length, get_or}
use Rattle.std.specs.List.{count_by}
use Rattle.amr_guard.proofs.places.counted.Given as goal

abbrev pub invariant-loop-length : goal.invariant-loop-length
invariant-loop-length l =
    (length l.counts ≡ 61)
    × ((k : ℕ) → k ≤ 60 → get_or l.counts k 0 ≡ count_by (λ x. eqb x k) (take l.length-index l.lengths))
