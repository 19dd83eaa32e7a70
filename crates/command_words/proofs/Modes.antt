-- Modes of a set: each is a number of 4 bits, and the greatest is among them.
use Rattle.std.proofs.Common.{◌≡◌, ℕ, zero, suc, ◌+◌, ◌/◌, ◌%◌, ◌^◌, ◌<◌, ◌≤◌, Bool, true, false, ◌||◌, cond, max, nat_eq, List, [], ◌∷◌, length, filter, fold, refl, ap, sym, ◌∙◌, Option, None, Some, IfSome, nat_lt, subst, arith, eqb-true, ltb-true}
use Rattle.std.proofs.lemmas.Bool.{eqb-false}
use Rattle.std.specs.List.{list_any, range_with_len}
use Rattle.amr_mode.specs.Members.{members}
use Rattle.amr_mode.specs.declared.mode_set.ModeSet.{ModeSet}
use Rattle.spec_modes.specs.ModeSets.{greatest, has}

-- what is found among those that are kept is found among all
found : (p q : ℕ → Bool) (xs : List ℕ) → list_any p (filter q xs) ≡ true → list_any p xs ≡ true
found p q [] e = e
found p q (x ∷ xs) e = by_kept (q x) e (found p q xs)
  where
    either : (a b : Bool) → b ≡ true → (a || b) ≡ true
    either true b e = refl
    either false b e = e

    joined : (a b d : Bool) → (b ≡ true → d ≡ true) → (a || b) ≡ true → (a || d) ≡ true
    joined true b d h e = refl
    joined false b d h e = h e

    by_kept : (k : Bool) → list_any p (cond k (x ∷ filter q xs) (filter q xs)) ≡ true
        → (list_any p (filter q xs) ≡ true → list_any p xs ≡ true) → (p x || list_any p xs) ≡ true
    by_kept true e more = joined (p x) (list_any p (filter q xs)) (list_any p xs) more e
    by_kept false e more = either (p x) (list_any p xs) (more e)

-- a number of a range is below its end
in_range : (n s k : ℕ) → list_any (λ m. nat_eq m n) (range_with_len s k) ≡ true → n < s + k
in_range n s zero e = absurd cc
in_range n s (suc k) e = by_first (nat_eq s n) refl e (in_range n (s + 1) k)
  where
    by_first : (b : Bool) → nat_eq s n ≡ b → (b || list_any (λ m. nat_eq m n) (range_with_len (s + 1) k)) ≡ true
        → (list_any (λ m. nat_eq m n) (range_with_len (s + 1) k) ≡ true → n < s + 1 + k) → n < s + suc k
    by_first true is e more = let same : s ≡ n = eqb-true s n is in omega (arith, same)
    by_first false is e more = let below : n < s + 1 + k = more e in omega (arith, below)

pub short : (set : ModeSet) (n : ℕ) → has (members set) n ≡ true → n < 16
unfolding members
short set n e = in_range n 0 16 (found (λ m. nat_eq m n) (λ m. nat_eq (set.bits / 2 ^ m % 2) 1) (range_with_len 0 16) e)

-- past 4 bits there is none
never : (b : Bool) → (b ≡ true → ⊥) → b ≡ false
never true h = absurd (h refl)
never false h = refl

pub past : (set : ModeSet) (n : ℕ) → 16 ≤ n → nat_lt n 16 ≡ has (members set) n
past set n far =
    let none : nat_lt n 16 ≡ false = never (nat_lt n 16) (λ e. omega (arith, far, ltb-true n 16 e)) in
    let not_in : has (members set) n ≡ false = never (has (members set) n) (λ e. omega (arith, far, short set n e)) in
    none ∙ sym not_in

-- a mode that is given is one of those that are left
pub given_short : (set : ModeSet) (o : Option ℕ) (n : ℕ) → IfSome o (λ m. has (members set) m ≡ true) → o ≡ Some n → n < 16
given_short set o n left is = short set n (subst (λ p. IfSome p (λ m. has (members set) m ≡ true)) is left)

-- the greatest of some numbers is one of them
top : (m : ℕ) (ms : List ℕ) → has (m ∷ ms) (fold max m ms) ≡ true
top m [] = ap (λ b. b || false) (itself (nat_eq m m) refl)
  where
    itself : (b : Bool) → nat_eq m m ≡ b → nat_eq m m ≡ true
    itself true e = e
    itself false e = absurd (eqb-false m m e refl)
top m (x ∷ xs) = by_first (nat_eq (max m x) (fold max (max m x) xs)) refl (top (max m x) xs)
  where
    either : (a b d : Bool) → (a || b) ≡ true → (a || (b || d)) ≡ true
    either true b d e = refl
    either false true d e = refl
    either false false d e = absurd cc

    last : (a b d : Bool) → d ≡ true → (a || (b || d)) ≡ true
    last true b d e = refl
    last false true d e = refl
    last false false d e = e

    one_of : (a b n : ℕ) → max a b ≡ n → (nat_eq a n || nat_eq b n) ≡ true
    one_of a b n e = by_first_of (nat_eq a n) refl (nat_eq b n) refl
      where
        by_first_of : (p : Bool) → nat_eq a n ≡ p → (q : Bool) → nat_eq b n ≡ q → (nat_eq a n || nat_eq b n) ≡ true
        by_first_of true s q t = ap (λ v. v || nat_eq b n) s
        by_first_of false s true t = λ i. s i || t i
        by_first_of false s false t = absurd (omega (arith, e, eqb-false a n s, eqb-false b n t))

    by_first : (p : Bool) → nat_eq (max m x) (fold max (max m x) xs) ≡ p
        → (nat_eq (max m x) (fold max (max m x) xs) || has xs (fold max (max m x) xs)) ≡ true
        → (nat_eq m (fold max (max m x) xs) || (nat_eq x (fold max (max m x) xs) || has xs (fold max (max m x) xs))) ≡ true
    by_first true is e = either (nat_eq m (fold max (max m x) xs)) (nat_eq x (fold max (max m x) xs)) (has xs (fold max (max m x) xs))
        (one_of m x (fold max (max m x) xs) (eqb-true (max m x) (fold max (max m x) xs) is))
    by_first false is e = last (nat_eq m (fold max (max m x) xs)) (nat_eq x (fold max (max m x) xs)) (has xs (fold max (max m x) xs))
        (sym (ap (λ p. p || has xs (fold max (max m x) xs)) is) ∙ e)

pub greatest_has : (ms : List ℕ) → 0 < length ms → has ms (greatest ms) ≡ true
greatest_has [] some = absurd (omega (arith, some))
greatest_has (m ∷ ms) some = ap (λ x. has (m ∷ ms) (fold max x ms)) {x = max 0 m} {y = m} (omega arith) ∙ top m ms

-- a mode that is given is one of these, by another list of them
pub given_left : (o : Option ℕ) (modes all : List ℕ) → modes ≡ all → ((n : ℕ) → o ≡ Some n → has all n ≡ true)
    → IfSome o (λ n. has modes n ≡ true)
given_left None modes all same left = tt
given_left (Some n) modes all same left = ap (λ ms. has ms n) same ∙ left n refl
