-- The bits of an entry that is written.
use Rattle.std.proofs.Common.{◌≡◌, ℕ, zero, suc, ◌+◌, ◌-◌, ◌*◌, ◌/◌, ◌%◌, ◌^◌, ◌≤◌, Bool, true, false, cond, nat_eq, [], ◌∷◌, ◌++◌, sym, refl, ap, subst, ◌∙◌, arith, inl, inr}
use mir.Val.{bool_byte}
use Rattle.std.specs.Prelude.{◌⊎◌}
use Rattle.std.proofs.lemmas.Nat.{pow-add}
use Rattle.std.proofs.Math.Nat.{div-div-eq-div-mul}
use Rattle.amr_bits.specs.Bits.{nat}
use Rattle.amr_toc.specs.declared.entry.Entry.{Entry}
use Rattle.amr_toc.specs.Entries.{entry_text}

-- a bit as a number, also as a byte
abbrev pub digit : Bool → ℕ
digit b = cond b 1 0

byte_is : (b : Bool) → bool_byte b ≡ digit b
byte_is true = refl
byte_is false = refl

small : (b : Bool) → digit b ≤ 1
small true = omega arith
small false = omega arith

is_bit : (b : Bool) → nat_eq (digit b) 1 ≡ b
is_bit true = refl
is_bit false = refl

-- the number of the six bits
abbrev six : Bool → ℕ → Bool → ℕ
six more ft q = 32 * bool_byte more + 2 * ft + bool_byte q

-- an entry of six bits, and one with two free bits behind it
narrow : (more q : Bool) (ft v : ℕ) → ft ≤ 15 → v ≡ 32 * digit more + 2 * ft + digit q → nat 6 v ≡ more ∷ nat 4 ft ++ q ∷ []
narrow more q ft v h e =
    let a = small more in
    let b = small q in
    let first : nat_eq (v / 32 % 2) 1 ≡ more = ap (λ (x : ℕ). nat_eq x 1) (omega arith) ∙ is_bit more in
    let last : nat_eq (v / 1 % 2) 1 ≡ q = ap (λ (x : ℕ). nat_eq x 1) (omega arith) ∙ is_bit q in
    let one : v / 16 % 2 ≡ ft / 8 % 2 = omega arith in
    let two : v / 8 % 2 ≡ ft / 4 % 2 = omega arith in
    let three : v / 4 % 2 ≡ ft / 2 % 2 = omega arith in
    let four : v / 2 % 2 ≡ ft / 1 % 2 = omega arith in
    λ i. first i ∷ nat_eq (one i) 1 ∷ nat_eq (two i) 1 ∷ nat_eq (three i) 1 ∷ nat_eq (four i) 1 ∷ last i ∷ []

-- the bits of a number in two parts
pub nat_split : (j k v : ℕ) → nat (j + k) v ≡ nat j (v / 2 ^ k) ++ nat k v
nat_split zero k v =
    let none : 0 + k ≡ k = omega arith in
    ap (λ (n : ℕ). nat n v) none
nat_split (suc j) k v =
    let front : suc j + k ≡ suc (j + k) = omega arith in
    let turned : j + k ≡ k + j = omega arith in
    let place = ap (λ (n : ℕ). v / 2 ^ n) turned ∙ ap (λ (m : ℕ). v / m) (pow-add 2 k j) in
    let digit : v / 2 ^ (j + k) ≡ v / 2 ^ k / 2 ^ j = place ∙ sym (div-div-eq-div-mul v (2 ^ k) (2 ^ j)) in
    ap (λ (n : ℕ). nat n v) front ∙ (λ i. nat_eq (digit i % 2) 1 ∷ nat_split j k v i)

pub wide : (more q : Bool) (ft v : ℕ) → ft ≤ 15 → v ≡ 128 * digit more + 8 * ft + 4 * digit q
    → nat 8 v ≡ more ∷ nat 4 ft ++ q ∷ false ∷ false ∷ []
wide more q ft v h e =
    let a = small more in
    let b = small q in
    let front = narrow more q ft (v / 4) h (omega arith) in
    let five : v / 2 % 2 ≡ 0 = omega arith in
    let six : v / 1 % 2 ≡ 0 = omega arith in
    nat_split 6 2 v ∙ ap (λ xs. xs ++ nat 2 v) front
    ∙ (λ i. more ∷ nat 4 ft ++ q ∷ nat_eq (five i) 1 ∷ nat_eq (six i) 1 ∷ [])

-- the number of an entry of 6 or 8 bits spells it
pub entry_is : (e : Entry) (more : Bool) (width : ℕ) → e.ft ≤ 15 → (width ≡ 6) ⊎ (width ≡ 8) → nat width (six more e.ft e.q * 2 ^ (width - 6) % 2 ^ 32) ≡ entry_text width e more
entry_is e more width h w =
    let a = small more in
    let b = small e.q in
    let x = byte_is more in
    let y = byte_is e.q in
    elim w [
      | inl is ↦ subst (λ (n : ℕ). nat n (six more e.ft e.q * 2 ^ (n - 6) % 2 ^ 32) ≡ entry_text n e more) (sym is) (narrow more e.q e.ft (six more e.ft e.q * 1 % 2 ^ 32) h (omega arith))
      | inr is ↦ subst (λ (n : ℕ). nat n (six more e.ft e.q * 2 ^ (n - 6) % 2 ^ 32) ≡ entry_text n e more) (sym is) (wide more e.q e.ft (six more e.ft e.q * 4 % 2 ^ 32) h (omega arith))
    ]
