use Rattle.std.proofs.Common.{◌≡◌, ◌≤◌, ◌<◌, ◌+◌, ◌*◌, ℕ, ltb, min, length, get_or}
use Rattle.std.specs.List.{count_by, sum_by}
use Rattle.amr_toc.specs.Lists.{listed, types_of}
use Rattle.amr_toc.specs.Places.{sizes_in}
use Rattle.amr_toc.proofs.walk.begin_rows.Given as goal

abbrev pub invariant-loop-octet : goal.invariant-loop-octet
invariant-loop-octet l =
    let sizes = sizes_in l.profile (types_of (listed l.toc)) in
    (length l.rows ≡ 60) × (l.place ≡ l.front + sum_by (λ x. min x l.octet) sizes) × (l.place ≤ 770 + 384 * l.octet)
    × (l.frames ≡ count_by (λ x. ltb l.octet x) sizes)
    × ((k : ℕ) → k < l.octet → get_or l.rows k 0 ≡ l.front + sum_by (λ x. min x k) sizes)
