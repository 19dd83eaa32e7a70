-- Where the parts of a header end, over the numbers that say it.
use Rattle.std.proofs.Common.{◌≡◌, ℕ, ◌+◌, ◌*◌, ◌<◌, ◌≤◌, Bool, true, false, cond, List, refl, ap, ◌∙◌, arith}
use Rattle.std.specs.Prelude.{nat_lt, ◌&&◌, ◌||◌}
use Rattle.std.proofs.lemmas.Bool.Decides.{nat_tests}
use Rattle.amr_bits.specs.Bits.{number_at}

-- the end of a header with an extension of m words
pub extended_end : (x : Bool) (s n t m : ℕ) → x ≡ true → t ≡ s → m ≡ n → t + 4 + 4 * m ≡ cond x (s + 4 + 4 * n) s
extended_end x s n t m e p q = rw (e, p, q) refl

-- the end of a header with no extension
pub plain_end : (x : Bool) (s n : ℕ) → x ≡ false → cond x (s + 4 + 4 * n) s ≡ s
plain_end x s n e = rw e refl

-- the number of words stands two octets on
pub words_at : (octets : List ℕ) (t s m : ℕ) → t ≡ s → m ≡ number_at octets (8 * (t + 2)) 16 → m ≡ number_at octets (8 * s + 16) 16
words_at octets t s m e h = let place : 8 * (t + 2) ≡ 8 * s + 16 = omega (arith, e) in h ∙ ap (λ k. number_at octets k 16) place

pub past_end : (x a : Bool) (have end last : ℕ) → x ≡ true → end ≡ last → have < end → true ≡ (x && (a || nat_lt have last))
past_end x true have end last e p h = rw e refl
past_end x false have end last e p h = let b : nat_lt have last ≡ true = grind (arith, nat_tests) in rw (e, b) refl

pub within_end : (x : Bool) (have low end last : ℕ) → x ≡ true → end ≡ last → low ≤ end → end ≤ have → false ≡ (x && (nat_lt have low || nat_lt have last))
within_end x have low end last e p l h =
    let a : nat_lt have low ≡ false = grind (arith, nat_tests) in
    let b : nat_lt have last ≡ false = grind (arith, nat_tests) in
    rw (e, a, b) refl

-- a source that is counted stands in the octets
pub source_within : (at count have end padding : ℕ) → at < count → 12 + 4 * count ≤ end → end + padding ≤ have → 12 + 4 * at + 4 ≤ have
source_within at count have end padding a b c = omega arith
