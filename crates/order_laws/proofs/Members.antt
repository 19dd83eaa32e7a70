-- What stands in lists that are made of others.
use Rattle.std.proofs.Common.{◌≡◌, ℕ, zero, suc, ◌+◌, ◌<◌, ◌≤◌, Bool, true, false, cond, inl, inr}
use Rattle.std.proofs.Common.{List, [], ◌∷◌, ◌++◌, length, map, sym, refl, ap, ◌∙◌, subst, arith}
use Rattle.std.proofs.lemmas.Bool.{cases_lt}
use Rattle.std.specs.Prelude.{◌⊎◌, filter, flat_map}
use Rattle.std.specs.List.{range_with_len, AllByRecursion}
use Rattle.order_laws.specs.Order.{StandsIn}

-- what holds for each of a list, and the other way round
pub all_in : {X : Type 0} (P : X → Type 0) (xs : List X) (x : X) → AllByRecursion P xs → StandsIn x xs → P x
all_in P [] x h s = absurd s
all_in P (y ∷ ys) x h (inl e) = subst P e h.0
all_in P (y ∷ ys) x h (inr s) = all_in P ys x h.1 s

pub all_from : {X : Type 0} (P : X → Type 0) (xs : List X) → ((x : X) → StandsIn x xs → P x) → AllByRecursion P xs
all_from P [] f = tt
all_from P (x ∷ xs) f = (f x (inl refl), all_from P xs (λ y s. f y (inr s)))

none_in : {X : Type 0} (xs : List X) (x : X) → length xs ≡ 0 → StandsIn x xs → ⊥
none_in [] x e s = s
none_in (y ∷ ys) x e s = absurd (omega arith)

in_left : {X : Type 0} (xs ys : List X) (x : X) → StandsIn x xs → StandsIn x (xs ++ ys)
in_left [] ys x s = absurd s
in_left (y ∷ xs) ys x (inl e) = inl e
in_left (y ∷ xs) ys x (inr s) = inr (in_left xs ys x s)

in_right : {X : Type 0} (xs ys : List X) (x : X) → StandsIn x ys → StandsIn x (xs ++ ys)
in_right [] ys x s = s
in_right (y ∷ xs) ys x s = inr (in_right xs ys x s)

in_either : {X : Type 0} (xs ys : List X) (x : X) → StandsIn x (xs ++ ys) → StandsIn x xs ⊎ StandsIn x ys
in_either [] ys x s = inr s
in_either (y ∷ xs) ys x (inl e) = inl (inl e)
in_either (y ∷ xs) ys x (inr s) =
    elim (in_either xs ys x s) [ inl l ↦ inl (inr l) | inr r ↦ inr r ]

-- images
pub in_map : {X Y : Type 0} (f : X → Y) (xs : List X) (x : X) → StandsIn x xs → StandsIn (f x) (map f xs)
in_map f [] x s = absurd s
in_map f (y ∷ xs) x (inl e) = inl (ap f e)
in_map f (y ∷ xs) x (inr s) = inr (in_map f xs x s)

pub from_map : {X Y : Type 0} (f : X → Y) (xs : List X) (y : Y) → StandsIn y (map f xs) →
    (x : X) × StandsIn x xs × (f x ≡ y)
from_map f [] y s = absurd s
from_map f (x ∷ xs) y (inl e) = (x, inl refl, e)
from_map f (x ∷ xs) y (inr s) = let k = from_map f xs y s in (k.0, inr k.1, k.2)

-- what a filter keeps
keeps : {X : Type 0} (p : X → Bool) (y : X) (ys : List X) (x : X) (b : Bool) → p y ≡ b → p x ≡ true →
    (StandsIn x ys → StandsIn x (filter p ys)) → StandsIn x (y ∷ ys) →
    StandsIn x (cond b (y ∷ filter p ys) (filter p ys))
keeps p y ys x true e t r (inl q) = inl q
keeps p y ys x true e t r (inr s) = inr (r s)
keeps p y ys x false e t r (inl q) = absurd (let k = sym e ∙ ap p q ∙ t in cc)
keeps p y ys x false e t r (inr s) = r s

pub in_filter : {X : Type 0} (p : X → Bool) (xs : List X) (x : X) → StandsIn x xs → p x ≡ true →
    StandsIn x (filter p xs)
in_filter p [] x s t = absurd s
in_filter p (y ∷ ys) x s t = keeps p y ys x (p y) refl t (λ k. in_filter p ys x k t) s

was_kept : {X : Type 0} (p : X → Bool) (y : X) (ys : List X) (x : X) (b : Bool) → p y ≡ b →
    (StandsIn x (filter p ys) → StandsIn x ys × (p x ≡ true)) →
    StandsIn x (cond b (y ∷ filter p ys) (filter p ys)) → StandsIn x (y ∷ ys) × (p x ≡ true)
was_kept p y ys x true e r (inl q) = (inl q, ap p (sym q) ∙ e)
was_kept p y ys x true e r (inr s) = let k = r s in (inr k.0, k.1)
was_kept p y ys x false e r s = let k = r s in (inr k.0, k.1)

pub from_filter : {X : Type 0} (p : X → Bool) (xs : List X) (x : X) → StandsIn x (filter p xs) →
    StandsIn x xs × (p x ≡ true)
from_filter p [] x s = absurd s
from_filter p (y ∷ ys) x s = was_kept p y ys x (p y) refl (from_filter p ys x) s

-- a filter that keeps nothing takes none of the list
no_true : (b : Bool) → (b ≡ true → ⊥) → b ≡ false
no_true true f = absurd (f refl)
no_true false f = refl

pub none_kept : {X : Type 0} (p : X → Bool) (xs : List X) (x : X) → length (filter p xs) ≡ 0 → StandsIn x xs →
    p x ≡ false
none_kept p xs x e s = no_true (p x) (λ t. none_in (filter p xs) x e (in_filter p xs x s t))

-- lists that are joined
pub in_flat : {X Y : Type 0} (f : X → List Y) (xs : List X) (x : X) (y : Y) → StandsIn x xs → StandsIn y (f x) →
    StandsIn y (flat_map f xs)
in_flat f [] x y s t = absurd s
in_flat f (z ∷ xs) x y (inl e) t = in_left (f z) (flat_map f xs) y (subst (λ w. StandsIn y (f w)) (sym e) t)
in_flat f (z ∷ xs) x y (inr s) t = in_right (f z) (flat_map f xs) y (in_flat f xs x y s t)

pub from_flat : {X Y : Type 0} (f : X → List Y) (xs : List X) (y : Y) → StandsIn y (flat_map f xs) →
    (x : X) × StandsIn x xs × StandsIn y (f x)
from_flat f [] y s = absurd s
from_flat f (x ∷ xs) y s =
    elim (in_either (f x) (flat_map f xs) y s) [
      | inl l ↦ (x, inl refl, l)
      | inr r ↦ (let k = from_flat f xs y r in (k.0, inr k.1, k.2))
    ]

-- numbers in a row
pub in_range : (a n k : ℕ) → a ≤ k → k < a + n → StandsIn k (range_with_len a n)
in_range a zero k l h = absurd (omega arith)
in_range a (suc n) k l h =
    elim (cases_lt a k) [
      | inl m ↦ inr (in_range (a + 1) n k (omega arith) (omega arith))
      | inr m ↦ inl (omega arith)
    ]

pub from_range : (a n k : ℕ) → StandsIn k (range_with_len a n) → (a ≤ k) × (k < a + n)
from_range a zero k s = absurd s
from_range a (suc n) k (inl e) = (omega arith, omega arith)
from_range a (suc n) k (inr s) = let r = from_range (a + 1) n k s in let l = r.0 in let h = r.1 in (omega arith, omega arith)
