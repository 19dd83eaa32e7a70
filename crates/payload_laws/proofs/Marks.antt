-- Bits of numbers, and two layouts that the same bits have.
use Rattle.std.proofs.Common.{◌≡◌, ℕ, zero, suc, ◌*◌, ◌^◌, ◌<◌, Bool, true, false, cond, List, [], ◌∷◌, ◌++◌, length, sym, refl, ap, ◌∙◌, arith, Some}
use Rattle.std.proofs.Math.Nat.{mod-eq_of_lt}
use Rattle.amr_bits.specs.Bits.{nat, number, bits_of}
use Rattle.amr_bits.specs.Layout.{Mark, fixed, free, fits, allows, same_bit}
use Rattle.amr_bits.proofs.Numbers.{number-nat}

-- a number below a power of two is what its bits spell
pub number_is : (k n : ℕ) → n < 2 ^ k → number (nat k n) ≡ n
number_is k n h = number-nat k n ∙ mod-eq_of_lt h

-- numbers with the same bits are equal
pub one_number : (k m n : ℕ) → m < 2 ^ k → n < 2 ^ k → nat k m ≡ nat k n → m ≡ n
one_number k m n a b e = sym (number_is k m a) ∙ ap number e ∙ number_is k n b

-- each octet has eight bits
pub length-bits_of : (octets : List ℕ) → length (bits_of octets) ≡ 8 * length octets
length-bits_of [] = refl
length-bits_of (o ∷ octets) = let e = length-bits_of octets in omega arith

-- there are bits that have both layouts
pub record Both (m n : List Mark) : Type 0 where
  pub bits : List Bool
  pub one : fits m bits ≡ true
  pub two : fits n bits ≡ true

-- bits that are the same are equal
pub same_bit_is : (a b : Bool) → same_bit a b ≡ true → a ≡ b
same_bit_is true true e = refl
same_bit_is true false e = absurd cc
same_bit_is false true e = absurd cc
same_bit_is false false e = refl

-- what bits with a layout say of the first place and of the others
pub front_bit : (m : Mark) (marks : List Mark) (b : Bool) (bits : List Bool)
    → fits (m ∷ marks) (b ∷ bits) ≡ true → (allows m b ≡ true) × (fits marks bits ≡ true)
front_bit m marks b bits e =
    elim (allows m b) as (λ v. allows m b ≡ v → cond v (fits marks bits) false ≡ true → (allows m b ≡ true) × (fits marks bits ≡ true)) [
      | true ↦ λ p q. (p, q)
      | false ↦ λ p q. absurd cc
    ] refl e

-- bits that have a layout are as many as its places
pub fits_length : (marks : List Mark) (bits : List Bool) → fits marks bits ≡ true
    → length bits ≡ length marks
fits_length [] [] e = refl
fits_length [] (b ∷ bits) e = absurd cc
fits_length (m ∷ marks) [] e = absurd cc
fits_length (m ∷ marks) (b ∷ bits) e = ap suc (fits_length marks bits (front_bit m marks b bits e).1)

-- two layouts that begin with as many fixed bits begin with the same ones
both_in : (a b : List Bool) (m n : List Mark) (bits : List Bool) → length a ≡ length b
    → fits (fixed a ++ m) bits ≡ true → fits (fixed b ++ n) bits ≡ true → (a ≡ b) × Both m n
both_in [] [] m n bits l e f = (refl, record { bits = bits; one = e; two = f })
both_in [] (y ∷ b) m n bits l e f = absurd (omega arith)
both_in (x ∷ a) [] m n bits l e f = absurd (omega arith)
both_in (x ∷ a) (y ∷ b) m n [] l e f = absurd cc
both_in (x ∷ a) (y ∷ b) m n (c ∷ bits) l e f =
    let p = front_bit (Some x) (fixed a ++ m) c bits e in
    let q = front_bit (Some y) (fixed b ++ n) c bits f in
    let r = both_in a b m n bits (omega arith) p.1 q.1 in
    let s : x ≡ y = same_bit_is x c p.0 ∙ sym (same_bit_is y c q.0) in
    (λ i. s i ∷ r.0 i, r.1)

-- the same of any bits that have both layouts
pub both_fixed : (a b : List Bool) (m n : List Mark) → length a ≡ length b
    → Both (fixed a ++ m) (fixed b ++ n) → (a ≡ b) × Both m n
both_fixed a b m n l h = both_in a b m n h.bits l h.one h.two

-- two layouts that begin with as many free places
free_in : (k : ℕ) (m n : List Mark) (bits : List Bool) → fits (free k ++ m) bits ≡ true
    → fits (free k ++ n) bits ≡ true → Both m n
free_in zero m n bits e f = record { bits = bits; one = e; two = f }
free_in (suc k) m n [] e f = absurd cc
free_in (suc k) m n (b ∷ bits) e f = free_in k m n bits e f

-- the same of any bits that have both layouts
pub both_free : (k : ℕ) (m n : List Mark) → Both (free k ++ m) (free k ++ n) → Both m n
both_free k m n h = free_in k m n h.bits h.one h.two
