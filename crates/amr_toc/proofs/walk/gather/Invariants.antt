use Rattle.std.proofs.Common.{◌≡◌, ◌<◌, ◌+◌, ℕ, cond, ltb, length, get_or}
use Rattle.amr_toc.proofs.walk.gather.Given as goal

abbrev pub invariant-loop-octet : goal.invariant-loop-octet
invariant-loop-octet l =
    (length l.gathered ≡ 60) × (length l.rows ≡ 60)
    × ((k : ℕ) → k < l.octet → get_or l.gathered k 0 ≡ get_or l.octets (get_or l.initial.rows k 0) 0)
    × ((k : ℕ) → k < 60 → get_or l.rows k 0 ≡ get_or l.initial.rows k 0 + cond (ltb k l.octet) 1 0)
