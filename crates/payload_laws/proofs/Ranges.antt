-- Ranges of numbers: maps over them, and the first number that passes a test.
use Rattle.std.proofs.Common.{◌≡◌, ℕ, zero, suc, ◌+◌, ◌<◌, ◌≤◌, Bool, true, false, ◌∷◌, map, sym, refl, ap, ◌∙◌, arith, Some, inl, inr}
use Rattle.std.specs.Prelude.{find, ◌⊎◌}
use Rattle.std.specs.List.{range_with_len}
use Rattle.std.proofs.lemmas.Bool.Decides.{eqb_tells}

-- maps over two ranges of the same length
pub map_moved : {X : Type 0} (f g : ℕ → X) (a b n : ℕ) → ((k : ℕ) → f (a + k) ≡ g (b + k))
    → map f (range_with_len a n) ≡ map g (range_with_len b n)
map_moved f g a b zero h = refl
map_moved f g a b (suc n) h =
    let e : f a ≡ g b = ap f (omega arith) ∙ h 0 ∙ ap g (omega arith) in
    λ i. e i ∷ map_moved f g (a + 1) (b + 1) n (λ k. ap f (omega arith) ∙ h (k + 1) ∙ ap g (omega arith)) i

-- the first number that passes is found
pub find_from : (q : ℕ → Bool) (a l k : ℕ) → a ≤ k → k < a + l
    → ((j : ℕ) → a ≤ j → j < k → q j ≡ false) → q k ≡ true → find q (range_with_len a l) ≡ Some k
find_from q a zero k low high none hit = absurd (omega arith)
find_from q a (suc l) k low high none hit =
    elim (eqb_tells a k) [
      | inl t ↦ let e : q a ≡ true = ap q t.1 ∙ hit in rw e (ap Some t.1)
      | inr t ↦ let lt : a < k = omega (arith, t.1) in rw (none a (omega arith) lt) (find_from q (a + 1) l k (omega arith) (omega arith) (λ j x y. none j (omega arith) y) hit)
    ]

-- the first number of a range that passes a test
pub record First (q : ℕ → Bool) (a l : ℕ) : Type 0 where
  pub at : ℕ
  pub is : find q (range_with_len a l) ≡ Some at
  pub low : a ≤ at
  pub high : at < a + l
  pub passes : q at ≡ true
  pub none : (i : ℕ) → a ≤ i → i < at → q i ≡ false

-- a range with a number that passes has a first one
pub first_of_range : (q : ℕ → Bool) (a l k : ℕ) → a ≤ k → k < a + l → q k ≡ true → First q a l
first_of_range q a zero k low high hit = absurd (omega arith)
first_of_range q a (suc l) k low high hit =
    elim (bool_cases (q a)) [
      | inl t ↦ record { at = a; is = rw t refl; low = omega arith; high = omega arith; passes = t; none = λ i x y. absurd (omega arith) }
      | inr f ↦ let r = first_of_range q (a + 1) l k (after_first q a k low hit f) (omega arith) hit in
          record { at = r.at; is = rw f r.is; low = (let x = r.low in omega arith); high = (let x = r.high in omega arith); passes = r.passes; none = λ i x y. below_first q a i r.at x y f r.none }
    ]
  where
    bool_cases : (b : Bool) → (b ≡ true) ⊎ (b ≡ false)
    bool_cases true = inl refl
    bool_cases false = inr refl

    after_first : (q : ℕ → Bool) (a k : ℕ) → a ≤ k → q k ≡ true → q a ≡ false → a + 1 ≤ k
    after_first q a k le e f = elim (eqb_tells a k) [ inl t ↦ absurd (let x : true ≡ false = sym e ∙ ap q (sym t.1) ∙ f in cc) | inr t ↦ omega (arith, t.1) ]

    below_first : (q : ℕ → Bool) (a i at : ℕ) → a ≤ i → i < at → q a ≡ false
        → ((j : ℕ) → a + 1 ≤ j → j < at → q j ≡ false) → q i ≡ false
    below_first q a i at x y f h = elim (eqb_tells a i) [ inl t ↦ ap q (sym t.1) ∙ f | inr t ↦ h i (omega (arith, t.1)) y ]
