-- The octet before the bits of a frame.
use mir.Val.{bool_byte}
use Rattle.std.proofs.Common.{◌≡◌, ℕ, ◌+◌, ◌*◌, ◌/◌, ◌%◌, ◌<◌, ◌≤◌, Bool, false, true, cond, List, [], ◌∷◌, ◌++◌, eqb, sym, refl, ap, ◌∙◌, arith, inl, inr, slice_set, take, length}
use Rattle.std.proofs.lemmas.Bool.{ne_eqb}
use Rattle.std.proofs.lemmas.Bool.Decides.{eqb_tells}
use Rattle.amr_frame.specs.declared.codec.Codec.{Codec}
use Rattle.spec_store.specs.StorageFile.{header, multi, single}
use Rattle.amr_bits.specs.Bits.{filled, nat}

-- an odd number's last bit
parity : (n : ℕ) → cond (eqb (n % 2) 1) 1 0 ≡ n % 2
parity n =
    elim (eqb_tells (n % 2) 1) [
      | inl t ↦ ap (λ b. cond b 1 0) t.0 ∙ sym t.1
      | inr t ↦ ap (λ b. cond b 1 0) t.0 ∙ omega (arith, t.1)
    ]

head_number : (ft a b c d q : ℕ) → ft ≤ 15 → a ≡ ft / 8 % 2 → b ≡ ft / 4 % 2 → c ≡ ft / 2 % 2 → d ≡ ft / 1 % 2 → 2 * (2 * (2 * (2 * (2 * (2 * (2 * (2 * 0 + 0) + a) + b) + c) + d) + q) + 0) + 0 ≡ ft * 8 + q * 4
head_number ft a b c d q h ea eb ec ed = omega arith

-- a bit as a number
pub bit_as_number : (b : Bool) → bool_byte b ≡ cond b 1 0
bit_as_number true = refl
bit_as_number false = refl

-- the octet with Q
pub head : (ft : ℕ) (q : Bool) → ft ≤ 15 → (ft * 8 + cond q 1 0 * 4) ∷ [] ≡ filled (false ∷ nat 4 ft ++ q ∷ [])
head ft q h =
    let e = head_number ft (cond (eqb (ft / 8 % 2) 1) 1 0) (cond (eqb (ft / 4 % 2) 1) 1 0) (cond (eqb (ft / 2 % 2) 1) 1 0) (cond (eqb (ft / 1 % 2) 1) 1 0) (cond q 1 0) h (parity (ft / 8)) (parity (ft / 4)) (parity (ft / 2)) (parity (ft / 1)) in
    ap (λ (n : ℕ). n ∷ []) (omega (arith, e))

-- the first octet after a write to it
pub first_set : (xs : List ℕ) (x : ℕ) → 0 < length xs → take 1 (slice_set xs 0 x) ≡ x ∷ []
first_set [] x h = absurd (omega arith)
first_set (y ∷ ys) x h = refl

-- the header of one channel, and of several
pub header_of_one : (codec : Codec) (n : ℕ) → n ≡ 1 → header codec n ≡ single codec
header_of_one codec n e = ap (header codec) e

pub header_of_many : (codec : Codec) (n : ℕ) → (n ≡ 1 → ⊥) → header codec n ≡ multi codec ++ 0 ∷ 0 ∷ 0 ∷ n ∷ []
header_of_many codec n e = ap (λ b. cond b (single codec) (multi codec ++ 0 ∷ 0 ∷ 0 ∷ n ∷ [])) (ne_eqb n 1 e)
