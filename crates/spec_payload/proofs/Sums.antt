-- Sums of polynomials over the two elements, and how long what a CRC is made of is.
use Rattle.std.proofs.Common.{◌≡◌, ℕ, zero, suc, ◌+◌, Bool, true, false, cond, List, [], ◌∷◌, ◌++◌, length, drop, replicate, sym, refl, ap, arith}
use Rattle.std.proofs.lemmas.List.{length-append}
use Rattle.spec_payload.specs.FrameCrc.{differ, plus, generator, remainder, crc_of}

-- a bit plus 0
differ_none : (a : Bool) → differ a false ≡ a
differ_none false = refl
differ_none true = refl

-- a bit added twice goes away
differ_twice : (a b : Bool) → differ (differ a b) b ≡ a
differ_twice false false = refl
differ_twice false true = refl
differ_twice true false = refl
differ_twice true true = refl

-- two bits may be added in either order
differ_swap : (a b c : Bool) → differ (differ a b) c ≡ differ (differ a c) b
differ_swap false false c = sym (differ_none c)
differ_swap false true false = refl
differ_swap false true true = refl
differ_swap true false false = refl
differ_swap true false true = refl
differ_swap true true false = refl
differ_swap true true true = refl

-- a sum is as long as its first part
pub length-plus : (a b : List Bool) → length (plus a b) ≡ length a
length-plus [] b = refl
length-plus (x ∷ a) [] = refl
length-plus (x ∷ a) (y ∷ b) = ap suc (length-plus a b)

-- a polynomial added twice goes away
pub plus_twice : (a b : List Bool) → plus (plus a b) b ≡ a
plus_twice [] b = refl
plus_twice (x ∷ a) [] = refl
plus_twice (x ∷ a) (y ∷ b) = λ i. differ_twice x y i ∷ plus_twice a b i

-- two polynomials may be added in either order
pub plus_swap : (a b c : List Bool) → plus (plus a b) c ≡ plus (plus a c) b
plus_swap [] b c = refl
plus_swap (x ∷ a) [] [] = refl
plus_swap (x ∷ a) [] (z ∷ c) = refl
plus_swap (x ∷ a) (y ∷ b) [] = refl
plus_swap (x ∷ a) (y ∷ b) (z ∷ c) = λ i. differ_swap x y z i ∷ plus_swap a b c i

-- a polynomial plus nothing
pub plus-nil : (a : List Bool) → plus a [] ≡ a
plus-nil [] = refl
plus-nil (x ∷ a) = refl

-- a polynomial plus zeros
pub plus-zeros : (a : List Bool) (n : ℕ) → plus a (replicate n false) ≡ a
plus-zeros [] n = refl
plus-zeros (x ∷ a) zero = refl
plus-zeros (x ∷ a) (suc n) = λ i. differ_none x i ∷ plus-zeros a n i

-- zeros plus a polynomial of that length
pub zero-plus : (w : List Bool) (n : ℕ) → length w ≡ n → plus (replicate n false) w ≡ w
zero-plus [] zero l = refl
zero-plus [] (suc n) l = absurd (omega arith)
zero-plus (x ∷ w) zero l = absurd (omega arith)
zero-plus (x ∷ w) (suc n) l = ap {B = List Bool} (λ t. x ∷ t) (zero-plus w n (omega arith))

-- a sum behind zeros leaves what stands in front
pub plus_behind : (a x y : List Bool)
    → plus (a ++ x) (replicate (length a) false ++ y) ≡ a ++ plus x y
plus_behind [] x y = refl
plus_behind (b ∷ a) x y = λ i. differ_none b i ∷ plus_behind a x y i

-- what a step of long division adds
abbrev pub added : Bool → List Bool
added b = cond b (drop 1 generator) []

-- a remainder has eight bits
pub length-remainder : (n : ℕ) (w : List Bool) → length w ≡ n + 8 → length (remainder n w) ≡ 8
length-remainder zero w l = omega arith
length-remainder (suc n) [] l = absurd (omega arith)
length-remainder (suc n) (b ∷ w) l = length-remainder n (plus w (added b)) (omega (arith, length-plus w (added b)))

-- and so has a CRC
pub length-crc : (a : List Bool) → length (crc_of a) ≡ 8
length-crc a = length-remainder (length a) (a ++ replicate 8 false) (length-append a (replicate 8 false))
