use Rattle.std.proofs.Common.{◌≡◌, ◌≤◌, ◌<◌, ◌*◌, ℕ, ltb, min, length, get_or}
use Rattle.std.specs.List.{count_by, sum_by}
use Rattle.amr_guard.proofs.places.row_starts.Given as goal

abbrev pub invariant-loop-octet : goal.invariant-loop-octet
invariant-loop-octet l =
    (length l.starts ≡ 60) × (l.start ≡ sum_by (λ x. min x l.octet) l.lengths) × (l.start ≤ 384 * l.octet)
    × (l.frames ≡ count_by (λ x. ltb l.octet x) l.lengths)
    × ((k : ℕ) → k < l.octet → get_or l.starts k 0 ≡ sum_by (λ x. min x k) l.lengths)
