-- The least and the greatest of modes, and which modes a filter leaves: by whether a mode is there.
use Rattle.std.proofs.Common.{◌≡◌, ℕ, ◌+◌, ◌<◌, ◌≤◌, ◌⊎◌, inl, inr, min, max, Bool, true, false, ◌&&◌, ◌||◌, nat_eq, nat_le, nat_lt, List, [], ◌∷◌, filter, fold, refl, ap, ◌∙◌, sym, arith, eqb-true, eq-eqb, leb-true, le-leb, ltb-true, lt-ltb}
use Rattle.std.specs.List.{list_all}
use Rattle.std.proofs.lemmas.Bool.{and_parts, cases_lt}
use Rattle.std.proofs.lemmas.Bool.Decides.{eqb_tells}
use Rattle.std.proofs.lemmas.Map.Views.{any-filter_same}
use Rattle.amr_mode.specs.Nearest.{greatest_below, least_above, up_to}
use Rattle.spec_modes.specs.Desk.{greatest_or}
use Rattle.spec_modes.specs.ModeSets.{has}

-- a mode that a filter leaves was there and passes
pub has_kept : (q : ℕ → Bool) (xs : List ℕ) (m : ℕ) → has (filter q xs) m ≡ (q m && has xs m)
has_kept q xs m = any-filter_same (λ k. nat_eq k m) q (q m) (λ k e. ap q (eqb-true k m e)) xs

pub has_head : (x : ℕ) (xs : List ℕ) → has (x ∷ xs) x ≡ true
has_head x xs = ap (λ b. b || has xs x) (eq-eqb x x refl)

or_right : (a b : Bool) → b ≡ true → (a || b) ≡ true
or_right true b e = refl
or_right false b e = e

pub has_more : (x : ℕ) (xs : List ℕ) (m : ℕ) → has xs m ≡ true → has (x ∷ xs) m ≡ true
has_more x xs m e = or_right (nat_eq x m) (has xs m) e

-- a mode is the head or behind it
pub of_more : (x : ℕ) (xs : List ℕ) (m : ℕ) → has (x ∷ xs) m ≡ true → (x ≡ m) ⊎ (has xs m ≡ true)
of_more x xs m e = elim (eqb_tells x m) [
  | inl t ↦ inl t.1
  | inr t ↦ inr (sym (ap (λ b. b || has xs m) t.0) ∙ e)
]

-- folds of a choice of two that keeps within a bound, where the bound is among what is folded
module _ (pick : ℕ → ℕ → ℕ) (Within : ℕ → ℕ → Type 0) (both : (t x g : ℕ) → Within t g → Within x g → Within (pick t x) g)
    (stays : (x g : ℕ) → Within x g → pick g x ≡ g) (moves : (t g : ℕ) → Within t g → pick t g ≡ g) where
  fold_is : (xs : List ℕ) (t g : ℕ) → Within t g → ((k : ℕ) → has xs k ≡ true → Within k g) → (t ≡ g) ⊎ (has xs g ≡ true) → fold pick t xs ≡ g
  fold_is [] t g l h (inl e) = e
  fold_is [] t g l h (inr e) = absurd cc
  fold_is (x ∷ xs) t g l h at = let behind = h x (has_head x xs) in
      fold_is xs (pick t x) g (both t x g l behind) (λ k e. h k (has_more x xs k e)) (elim at [
        | inl e ↦ inl (ap (λ n. pick n x) e ∙ stays x g behind)
        | inr e ↦ elim (of_more x xs g e) [ inl s ↦ inl (ap (pick t) s ∙ moves t g l) | inr s ↦ inr s ]
      ])

pub max_is : (xs : List ℕ) (t g : ℕ) → t ≤ g → ((k : ℕ) → has xs k ≡ true → k ≤ g) → (t ≡ g) ⊎ (has xs g ≡ true) → fold max t xs ≡ g
max_is = fold_is max (λ t g. t ≤ g) (λ t x g l m. omega (arith, l, m)) (λ x g l. omega (arith, l)) (λ t g l. omega (arith, l))

pub min_is : (xs : List ℕ) (t g : ℕ) → g ≤ t → ((k : ℕ) → has xs k ≡ true → g ≤ k) → (t ≡ g) ⊎ (has xs g ≡ true) → fold min t xs ≡ g
min_is = fold_is min (λ t g. g ≤ t) (λ t x g l m. omega (arith, l, m)) (λ x g l. omega (arith, l)) (λ t g l. omega (arith, l))

greatest_is : (xs : List ℕ) (stays g : ℕ) → has xs g ≡ true → ((k : ℕ) → has xs k ≡ true → k ≤ g) → greatest_or stays xs ≡ g
greatest_is [] stays g e h = absurd cc
greatest_is (x ∷ xs) stays g e h = max_is xs x g (h x (has_head x xs)) (λ k e. h k (has_more x xs k e)) (of_more x xs g e)

greatest_none : (xs : List ℕ) (stays : ℕ) → ((k : ℕ) → has xs k ≡ true → ⊥) → greatest_or stays xs ≡ stays
greatest_none [] stays h = refl
greatest_none (x ∷ xs) stays h = absurd (h x (has_head x xs))

-- what a filter by a bound leaves, read off
kept_parts : (q : ℕ → Bool) (xs : List ℕ) (m : ℕ) → has (filter q xs) m ≡ true → (q m ≡ true) × (has xs m ≡ true)
kept_parts q xs m e = and_parts (q m) (has xs m) (sym (has_kept q xs m) ∙ e)

kept_so : (q : ℕ → Bool) (xs : List ℕ) (m : ℕ) → q m ≡ true → has xs m ≡ true → has (filter q xs) m ≡ true
kept_so q xs m e f = has_kept q xs m ∙ (λ i. e i && f i)

-- no mode of the set stands from one number up to another
abbrev pub Without : List ℕ → ℕ → ℕ → Type 0
Without xs low high = (k : ℕ) → low ≤ k → k < high → has xs k ≡ false

clash : (b : Bool) → b ≡ true → b ≡ false → ⊥
clash b e f = absurd cc

-- what is beside a stretch without modes
pub before_gap : (xs : List ℕ) (low high m : ℕ) → Without xs low high → has xs m ≡ true → m < high → m < low
before_gap xs low high m h e l = elim (cases_lt m low) [ inl s ↦ s | inr s ↦ absurd (clash (has xs m) e (h m s l)) ]

pub up_to_found : (xs : List ℕ) (limit stays m : ℕ) → m ≤ limit → has xs m ≡ true → Without xs (m + 1) (limit + 1) → up_to xs limit stays ≡ m
up_to_found xs limit stays m l e h = greatest_is (filter (λ k. nat_le k limit) xs) stays m (kept_so (λ k. nat_le k limit) xs m (le-leb m limit l) e)
    (λ k f. let p = kept_parts (λ n. nat_le n limit) xs k f in let b : k ≤ limit = leb-true k limit p.0 in let g : k < m + 1 = before_gap xs (m + 1) (limit + 1) k h p.1 (omega arith) in omega arith)

pub up_to_none : (xs : List ℕ) (limit stays : ℕ) → Without xs 0 (limit + 1) → up_to xs limit stays ≡ stays
up_to_none xs limit stays h = greatest_none (filter (λ k. nat_le k limit) xs) stays
    (λ k f. let p = kept_parts (λ n. nat_le n limit) xs k f in let b : k ≤ limit = leb-true k limit p.0 in let g : k < 0 = before_gap xs 0 (limit + 1) k h p.1 (omega arith) in omega arith)

pub above_found : (xs : List ℕ) (mode target m : ℕ) → mode < m → m ≤ target → (target ≡ m) ⊎ (has xs m ≡ true) → Without xs (mode + 1) m → least_above xs mode target ≡ m
above_found xs mode target m l u at h = min_is (filter (λ k. nat_lt mode k) xs) target m u
    (λ k f. let p = kept_parts (λ n. nat_lt mode n) xs k f in let b : mode < k = ltb-true mode k p.0 in not_under k b p.1)
    (elim at [ inl e ↦ inl e | inr e ↦ inr (kept_so (λ k. nat_lt mode k) xs m (lt-ltb mode m l) e) ])
  where
    not_under : (k : ℕ) → mode < k → has xs k ≡ true → m ≤ k
    not_under k b e = elim (cases_lt k m) [ inl s ↦ absurd (clash (has xs k) e (h k (omega arith) s)) | inr s ↦ s ]

pub below_found : (xs : List ℕ) (mode target m : ℕ) → target ≤ m → m ≤ mode → (target ≡ m) ⊎ ((m < mode) × (has xs m ≡ true)) → Without xs (m + 1) mode → greatest_below xs mode target ≡ m
below_found xs mode target m l u at h = max_is (filter (λ k. nat_lt k mode) xs) target m l
    (λ k f. let p = kept_parts (λ n. nat_lt n mode) xs k f in let b : k < mode = ltb-true k mode p.0 in let g : k < m + 1 = before_gap xs (m + 1) mode k h p.1 b in omega arith)
    (elim at [ inl e ↦ inl e | inr e ↦ inr (kept_so (λ k. nat_lt k mode) xs m (lt-ltb m mode e.0) e.1) ])

-- each mode of one set is in another
pub all_of : (q : ℕ → Bool) (xs : List ℕ) → ((k : ℕ) → has xs k ≡ true → q k ≡ true) → list_all q xs ≡ true
all_of q [] h = refl
all_of q (x ∷ xs) h = λ i. h x (has_head x xs) i && all_of q xs (λ k e. h k (has_more x xs k e)) i

pub of_all : (q : ℕ → Bool) (xs : List ℕ) (m : ℕ) → list_all q xs ≡ true → has xs m ≡ true → q m ≡ true
of_all q [] m a e = absurd cc
of_all q (x ∷ xs) m a e = let p = and_parts (q x) (list_all q xs) a in
    elim (of_more x xs m e) [ inl s ↦ ap q (sym s) ∙ p.0 | inr s ↦ of_all q xs m p.1 s ]
