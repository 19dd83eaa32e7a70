-- Sums of polynomials in pieces, and their numbers.
use Rattle.std.proofs.Common.{◌≡◌, ℕ, ◌+◌, ◌*◌, ◌^◌, ◌<◌, ◌≤◌, Bool, true, false, List, [], ◌∷◌, ◌++◌, length, sym, refl, ap, ◌∙◌, arith}
use Rattle.std.specs.Prelude.{bit_xor}
use Rattle.std.proofs.lemmas.Nat.{xor_block}
use Rattle.amr_bits.specs.Bits.{number}
use Rattle.amr_bits.proofs.Numbers.{bit, number-cons, number-lt}
use Rattle.spec_payload.specs.FrameCrc.{differ, plus}
use Rattle.spec_payload.proofs.Sums.{length-plus, plus-nil}

-- a sum with a short polynomial leaves what stands behind
pub plus_before : (a x g : List Bool) → length g ≤ length a → plus (a ++ x) g ≡ plus a g ++ x
plus_before [] x [] h = plus-nil x
plus_before [] x (y ∷ g) h = absurd (omega arith)
plus_before (b ∷ a) x [] h = refl
plus_before (b ∷ a) x (y ∷ g) h = ap {B = List Bool} (λ t. differ b y ∷ t) (plus_before a x g (omega arith))

-- sums of two pieces each
pub plus-append : (a b x y : List Bool) → length a ≡ length b → plus (a ++ x) (b ++ y) ≡ plus a b ++ plus x y
plus-append [] [] x y h = refl
plus-append [] (c ∷ b) x y h = absurd (omega arith)
plus-append (d ∷ a) [] x y h = absurd (omega arith)
plus-append (d ∷ a) (c ∷ b) x y h = ap {B = List Bool} (λ t. differ d c ∷ t) (plus-append a b x y (omega arith))

bit-differ : (x y : Bool) → bit (differ x y) ≡ bit_xor (bit x) (bit y)
bit-differ false false = refl
bit-differ false true = refl
bit-differ true false = refl
bit-differ true true = refl

-- the number of a sum
pub number-plus : (a b : List Bool) → length a ≡ length b → number (plus a b) ≡ bit_xor (number a) (number b)
number-plus [] [] h = refl
number-plus [] (y ∷ b) h = absurd (omega arith)
number-plus (x ∷ a) [] h = absurd (omega arith)
number-plus (x ∷ a) (y ∷ b) h =
    let k = length a in
    let size : length a ≡ length b = omega arith in
    let low : number b < 2 ^ k = rw size (number-lt b) in
    number-cons (differ x y) (plus a b)
    ∙ ap (λ (n : ℕ). bit (differ x y) * 2 ^ n + number (plus a b)) (length-plus a b)
    ∙ ap (λ (n : ℕ). n * 2 ^ k + number (plus a b)) (bit-differ x y)
    ∙ ap (λ (n : ℕ). bit_xor (bit x) (bit y) * 2 ^ k + n) (number-plus a b size)
    ∙ sym (xor_block k (bit x) (bit y) (number a) (number b) (number-lt a) low)
    ∙ ap (λ (n : ℕ). bit_xor n (bit y * 2 ^ k + number b)) (sym (number-cons x a))
    ∙ ap (λ (n : ℕ). bit_xor (number (x ∷ a)) n) (ap (λ (n : ℕ). bit y * 2 ^ n + number b) size ∙ sym (number-cons y b))
