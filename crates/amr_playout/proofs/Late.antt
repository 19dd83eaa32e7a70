-- The late blocks of a packet, counted one by one.
use Rattle.std.proofs.Common.{ℕ, zero, suc, ◌+◌, ◌≡◌, Bool, true, false, cond, [], ◌∷◌, ◌++◌, length, refl, ap, ◌∙◌, arith, length-append}
use Rattle.std.specs.Prelude.{filter}
use Rattle.std.specs.List.{range_with_len}
use Rattle.std.proofs.lemmas.List.Elements.{filter-append}

range_more : (a n : ℕ) → range_with_len a (n + 1) ≡ range_with_len a n ++ (a + n) ∷ []
range_more a zero = ap (λ k. k ∷ []) (omega arith)
range_more a (suc n) =
    let size : suc n + 1 ≡ suc (n + 1) = omega arith in
    ap (range_with_len a) size
    ∙ ap (λ ks. a ∷ ks) (range_more (a + 1) n ∙ ap (λ k. range_with_len (a + 1) n ++ k ∷ []) (omega arith))

-- the numbers below n of which t holds
abbrev pub count_to : (ℕ → Bool) → ℕ → ℕ
count_to t n = length (filter t (range_with_len 0 n))

one : (t : ℕ → Bool) (n : ℕ) → length (filter t (n ∷ [])) ≡ cond (t n) 1 0
one t n = elim (t n) as (λ b. length (cond b (n ∷ []) []) ≡ cond b 1 0) [ true ↦ refl | false ↦ refl ]

pub count_more : (t : ℕ → Bool) (n : ℕ) → count_to t (n + 1) ≡ count_to t n + cond (t n) 1 0
count_more t n =
    ap (λ ks. length (filter t ks)) (range_more 0 n) ∙ ap length (filter-append t (range_with_len 0 n) ((0 + n) ∷ []))
    ∙ length-append (filter t (range_with_len 0 n)) (filter t ((0 + n) ∷ []))
    ∙ ap (λ k. count_to t n + length (filter t (k ∷ []))) (omega arith)
    ∙ ap (λ k. count_to t n + k) (one t n)
