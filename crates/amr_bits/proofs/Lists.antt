-- Lists of anything: what holds of each element, how long they are, sums and the greatest number.
use Rattle.std.proofs.Common.{◌≡◌, ℕ, zero, suc, ◌+◌, ◌<◌, ◌≤◌, Bool, true, false, cond, List, [], ◌∷◌, ◌++◌, length, map, take, get_or, sum, sym, refl, ap, ◌∙◌, arith, subst, inl, inr}
use Rattle.std.specs.Prelude.{filter, max}
use Rattle.std.specs.List.{fold, AllByRecursion, range_with_len}
use Rattle.std.proofs.lemmas.Bool.Decides.{eqb_tells}
use Rattle.std.proofs.lemmas.List.Sums.{sum-map, sum_by_more}
use Rattle.std.proofs.Math.Nat.{le-max_left, le-max_right}

-- each element of two lists, put together and taken apart
pub all_append : {X : Type 0} (P : X → Type 0) (xs ys : List X) → AllByRecursion P xs
    → AllByRecursion P ys → AllByRecursion P (xs ++ ys)
all_append P [] ys a b = b
all_append P (x ∷ xs) ys a b = (a.0, all_append P xs ys a.1 b)

pub split_all : {X : Type 0} (P : X → Type 0) (xs ys : List X) → AllByRecursion P (xs ++ ys)
    → AllByRecursion P xs × AllByRecursion P ys
split_all P [] ys h = (tt, h)
split_all P (x ∷ xs) ys h = let r = split_all P xs ys h.1 in ((h.0, r.0), r.1)

-- each image, and each element that an image is of
pub all_images : {X Y : Type 0} (f : X → Y) (P : Y → Type 0) (xs : List X)
    → AllByRecursion (λ x. P (f x)) xs → AllByRecursion P (map f xs)
all_images f P [] h = tt
all_images f P (x ∷ xs) h = (h.0, all_images f P xs h.1)

pub of_images : {X Y : Type 0} (f : X → Y) (P : Y → Type 0) (xs : List X)
    → AllByRecursion P (map f xs) → AllByRecursion (λ x. P (f x)) xs
of_images f P [] h = tt
of_images f P (x ∷ xs) h = (h.0, of_images f P xs h.1)

-- what each says more
pub all_more : {X : Type 0} (P Q : X → Type 0) (xs : List X) → ((x : X) → P x → Q x)
    → AllByRecursion P xs → AllByRecursion Q xs
all_more P Q [] f h = tt
all_more P Q (x ∷ xs) f h = (f x h.0, all_more P Q xs f h.1)

-- each number of a range
pub all_range : (P : ℕ → Type 0) (a n : ℕ) → ((k : ℕ) → a ≤ k → k < a + n → P k)
    → AllByRecursion P (range_with_len a n)
all_range P a zero h = tt
all_range P a (suc n) h = (h a (omega arith) (omega arith), all_range P (a + 1) n (λ k l m. h k (omega arith) (omega arith)))

pub of_range : (P : ℕ → Type 0) (a n k : ℕ) → a ≤ k → k < a + n
    → AllByRecursion P (range_with_len a n) → P k
of_range P a zero k low high h = absurd (omega arith)
of_range P a (suc n) k low high h =
    elim (eqb_tells a k) [
      | inl t ↦ subst P t.1 h.0
      | inr t ↦ of_range P (a + 1) n k (omega (arith, t.1)) (omega arith) h.1
    ]

-- the element at a place
pub all_get : {X : Type 0} (P : X → Type 0) (xs : List X) (i : ℕ) (d : X) → AllByRecursion P xs
    → i < length xs → P (get_or xs i d)
all_get P [] i d h l = absurd (omega arith)
all_get P (x ∷ xs) zero d h l = h.0
all_get P (x ∷ xs) (suc i) d h l = all_get P xs i d h.1 (omega arith)

pub all_by : {X : Type 0} (P : X → Type 0) (xs : List X) (d : X)
    → ((i : ℕ) → i < length xs → P (get_or xs i d)) → AllByRecursion P xs
all_by P [] d h = tt
all_by P (x ∷ xs) d h = (h 0 (omega arith), all_by P xs d (λ i l. h (suc i) (omega arith)))

-- each element that passes a test
all_cond : {X : Type 0} (P : X → Type 0) (b : Bool) (x : X) (ys : List X) → (b ≡ true → P x)
    → AllByRecursion P ys → AllByRecursion P (cond b (x ∷ ys) ys)
all_cond P true x ys a h = (a refl, h)
all_cond P false x ys a h = h

pub all_kept : {X : Type 0} (q : X → Bool) (P : X → Type 0) (xs : List X)
    → AllByRecursion (λ x. q x ≡ true → P x) xs → AllByRecursion P (filter q xs)
all_kept q P [] h = tt
all_kept q P (x ∷ xs) h = all_cond P (q x) x (filter q xs) h.0 (all_kept q P xs h.1)

of_cond : {X : Type 0} (P : X → Type 0) (b : Bool) (x : X) (ys : List X)
    → AllByRecursion P (cond b (x ∷ ys) ys) → (b ≡ true → P x) × AllByRecursion P ys
of_cond P true x ys h = (λ e. h.0, h.1)
of_cond P false x ys h = (λ e. absurd cc, h)

pub of_kept : {X : Type 0} (q : X → Bool) (P : X → Type 0) (xs : List X)
    → AllByRecursion P (filter q xs) → AllByRecursion (λ x. q x ≡ true → P x) xs
of_kept q P [] h = tt
of_kept q P (x ∷ xs) h = let r = of_cond P (q x) x (filter q xs) h in (r.0, of_kept q P xs r.1)

-- two lists, each with one more where a test holds, are as long
pub length-cond : {X Y : Type 0} (b : Bool) (x : X) (xs : List X) (y : Y) (ys : List Y)
    → length xs ≡ length ys → length (cond b (x ∷ xs) xs) ≡ length (cond b (y ∷ ys) ys)
length-cond true x xs y ys e = ap suc e
length-cond false x xs y ys e = e

-- the sum of one number more
pub sum-more : (xs : List ℕ) (n : ℕ) → n < length xs
    → sum (take (suc n) xs) ≡ sum (take n xs) + get_or xs n 0
sum-more xs n h = let e : suc n ≡ n + 1 = omega arith in ap (λ k. sum (take k xs)) e ∙ sum_by_more (λ x. x) xs n 0 h

-- the sum of one image more
pub sum-map-more : (f : ℕ → ℕ) (xs : List ℕ) (k : ℕ) → k < length xs
    → sum (map f (take (k + 1) xs)) ≡ sum (map f (take k xs)) + f (get_or xs k 0)
sum-map-more f xs k h = sum-map f (take (k + 1) xs) ∙ sum_by_more f xs k 0 h ∙ ap (λ n. n + f (get_or xs k 0)) (sym (sum-map f (take k xs)))

-- the greatest of several numbers and a first one is at least the first
pub max_grows : (xs : List ℕ) (a : ℕ) → a ≤ fold max a xs
max_grows [] a = omega arith
max_grows (x ∷ xs) a = let l = le-max_left a x in let r = max_grows xs (max a x) in omega arith

-- and at least each other
pub below_max : (xs : List ℕ) (a k : ℕ) → k < length xs → get_or xs k 0 ≤ fold max a xs
below_max [] a k h = absurd (omega arith)
below_max (x ∷ xs) a zero h = let l = le-max_right a x in let r = max_grows xs (max a x) in omega arith
below_max (x ∷ xs) a (suc k) h = below_max xs (max a x) k (omega arith)

-- each number is at most what the greatest is
pub all_below : (xs : List ℕ) (a m : ℕ) → fold max a xs ≤ m → AllByRecursion (λ x. x ≤ m) xs
all_below [] a m h = tt
all_below (x ∷ xs) a m h = let l = le-max_right a x in let r = max_grows xs (max a x) in (omega arith, all_below xs (max a x) m h)
