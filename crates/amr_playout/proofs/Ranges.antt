-- Maps over ranges.
use Rattle.std.proofs.Common.{ℕ, zero, suc, ◌+◌, ◌<◌, ◌≡◌, List, [], ◌∷◌, ◌++◌, map, refl, ap, ◌∙◌, arith}
use Rattle.std.specs.List.{range_with_len}

-- functions that agree, each over its own range
pub shifted_maps : {X : Type 0} (f g : ℕ → X) (a b n : ℕ) → ((k : ℕ) → k < n → f (a + k) ≡ g (b + k))
    → map f (range_with_len a n) ≡ map g (range_with_len b n)
shifted_maps f g a b zero each = refl
shifted_maps f g a b (suc n) each =
    ap (λ y. y ∷ map f (range_with_len (a + 1) n)) (ap f (omega arith) ∙ each 0 (omega arith) ∙ ap g (omega arith))
    ∙ ap (λ ys. g b ∷ ys)
    (shifted_maps f g (a + 1) (b + 1) n
    (λ k hi. ap f (omega arith) ∙ each (k + 1) (omega arith) ∙ ap g (omega arith)))

-- one range behind another
pub joined_maps : {X : Type 0} (f : ℕ → X) (a m n : ℕ)
    → map f (range_with_len a (m + n)) ≡ map f (range_with_len a m) ++ map f (range_with_len (a + m) n)
joined_maps f a zero n = let e : zero + n ≡ n = omega arith in let d : a + zero ≡ a = omega arith in rw (e, d) refl
joined_maps f a (suc m) n =
    let e : suc m + n ≡ suc (m + n) = omega arith in
    let d : a + suc m ≡ (a + 1) + m = omega arith in
    rw (e, d) (ap (λ ys. f a ∷ ys) (joined_maps f (a + 1) m n))

pub map_map : {X Y Z : Type 0} (f : Y → Z) (g : X → Y) (xs : List X) → map f (map g xs) ≡ map (λ x. f (g x)) xs
map_map f g [] = refl
map_map f g (x ∷ xs) = ap (λ ys. f (g x) ∷ ys) (map_map f g xs)
