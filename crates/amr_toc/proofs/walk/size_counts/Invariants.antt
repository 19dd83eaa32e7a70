use Rattle.std.proofs.Common.{◌≡◌, ◌≤◌, ℕ, eqb, take, length, get_or}
use Rattle.std.specs.List.{count_by}
use Rattle.amr_toc.specs.Lists.{listed, types_of}
use Rattle.amr_toc.specs.Places.{sizes_in}
use Rattle.amr_toc.proofs.walk.size_counts.Given as goal

abbrev pub invariant-loop-at : goal.invariant-loop-at
invariant-loop-at l =
    (length l.counts ≡ 61)
    × ((k : ℕ) → k ≤ 60 → get_or l.counts k 0
    ≡ count_by (λ x. eqb x k) (take l.at (sizes_in l.profile (types_of (listed l.toc)))))
