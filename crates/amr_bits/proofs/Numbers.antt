-- Numbers and their bits.
use Rattle.std.proofs.Common.{◌≡◌, ℕ, zero, suc, ◌+◌, ◌*◌, ◌/◌, ◌%◌, ◌^◌, ◌<◌, Bool, true, false, cond, nat_eq, List, [], ◌∷◌, ◌++◌, length, replicate, sym, refl, ap, ◌∙◌, arith}
use Rattle.std.specs.List.{fold}
use Rattle.std.proofs.lemmas.Bool.Decides.{nat_tests}
use Rattle.std.proofs.lemmas.List.Sums.{fold-append}
use Rattle.std.proofs.lemmas.List.{length-append, append_assoc}
use Rattle.std.proofs.Math.Arith.{mod-mul}
use Rattle.std.proofs.Math.Nat.{add-mul, mul_comm, mul_assoc, zero-mul}
use Rattle.std.proofs.lemmas.Nat.{pow-add, div-mul-add, mod-mul-add}
use Rattle.std.proofs.Math.Pow.{pow_pos}
use Rattle.amr_bits.specs.Bits.{nat, number}

abbrev pub bit : Bool → ℕ
bit b = cond b 1 0

bit_is : (x : ℕ) → x < 2 → bit (nat_eq x 1) ≡ x
bit_is x h = grind (arith, nat_tests)

abbrev pub join : ℕ → Bool → ℕ
join n b = 2 * n + bit b

doubled : (a b p : ℕ) → (2 * a + b) * p ≡ a * (2 * p) + b * p
doubled a b p = add-mul (2 * a) b p ∙ ap (λ (x : ℕ). x * p + b * p) (mul_comm 2 a) ∙ ap (λ (x : ℕ). x + b * p) (mul_assoc a 2 p)

-- bits that are read after a number
joined : (bits : List Bool) (a : ℕ) → fold join a bits ≡ a * 2 ^ length bits + number bits
joined [] a = omega arith
joined (b ∷ bits) a =
    let p = 2 ^ length bits in
    let up : 2 ^ suc (length bits) ≡ 2 * p = omega arith in
    let front : number (b ∷ bits) ≡ bit b * p + number bits = joined bits (2 * 0 + bit b) ∙ ap (λ (x : ℕ). x * p + number bits) (omega arith) in
    let all : fold join (2 * a + bit b) bits ≡ (2 * a + bit b) * p + number bits = joined bits (2 * a + bit b) in
    rw (up, front) (all ∙ ap (λ (x : ℕ). x + number bits) (doubled a (bit b) p) ∙ omega arith)

pub number-cons : (b : Bool) (bits : List Bool) → number (b ∷ bits) ≡ bit b * 2 ^ length bits + number bits
number-cons b bits = joined bits (2 * 0 + bit b) ∙ ap (λ (x : ℕ). x * 2 ^ length bits + number bits) (omega arith)

pub number-append : (a b : List Bool) → number (a ++ b) ≡ number a * 2 ^ length b + number b
number-append a b = fold-append join 0 a b ∙ joined b (number a)

pub number-lt : (bits : List Bool) → number bits < 2 ^ length bits
number-lt [] = omega arith
number-lt (b ∷ bits) =
    let p = 2 ^ length bits in
    let up : 2 ^ suc (length bits) ≡ 2 * p = omega arith in
    let low : number bits < p = number-lt bits in
    rw (up, number-cons b bits) (elim b as (λ v. bit v * p + number bits < 2 * p) [
      | true ↦ omega (arith, low)
      | false ↦ omega (arith, low)
    ])

pub number-zeros : (n : ℕ) → number (replicate n false) ≡ 0
number-zeros zero = refl
number-zeros (suc n) = number-cons false (replicate n false) ∙ omega (arith, number-zeros n, zero-mul (2 ^ length (replicate n false)))

-- the number of bits in the middle
pub number-middle : (a b c : List Bool) → number (a ++ (b ++ c)) / 2 ^ length c % 2 ^ length b ≡ number b
number-middle a b c =
    let p = 2 ^ length b in
    let q = 2 ^ length c in
    let all : number (a ++ (b ++ c)) ≡ (number a * p + number b) * q + number c =
    number-append a (b ++ c) ∙ ap (λ (x : ℕ). number a * 2 ^ x + number (b ++ c)) (length-append b c)
    ∙ ap (λ (x : ℕ). number a * x + number (b ++ c)) (pow-add 2 (length b) (length c))
    ∙ ap (λ (x : ℕ). number a * (p * q) + x) (number-append b c)
    ∙ sym (ap (λ (x : ℕ). x + number c) (add-mul (number a * p) (number b) q ∙ ap (λ (x : ℕ). x + number b * q) (mul_assoc (number a) p q)) ∙ omega arith) in
    ap (λ (x : ℕ). x / q % p) all ∙ ap (λ (x : ℕ). x % p) (div-mul-add (number a * p + number b) q (number c) (number-lt c))
    ∙ mod-mul-add (number a) p (number b) (number-lt b)

one_bit : (b : Bool) → nat_eq (number (b ∷ [])) 1 ≡ b
one_bit true = refl
one_bit false = refl

-- the last k bits of the number of bits
nat_of_number : (k : ℕ) (a bits : List Bool) → length bits ≡ k → nat k (number (a ++ bits)) ≡ bits
nat_of_number zero a [] e = refl
nat_of_number zero a (b ∷ bits) e = absurd (omega arith)
nat_of_number (suc k) a [] e = absurd (omega arith)
nat_of_number (suc k) a (b ∷ bits) e =
    let size : length bits ≡ k = omega arith in
    let here : nat_eq (number (a ++ (b ∷ bits)) / 2 ^ k % 2) 1 ≡ b =
    ap (λ (x : ℕ). nat_eq (number (a ++ (b ∷ bits)) / 2 ^ x % 2) 1) (sym size)
    ∙ ap (λ (x : ℕ). nat_eq x 1) (number-middle a (b ∷ []) bits) ∙ one_bit b in
    ap (λ x. x ∷ nat k (number (a ++ (b ∷ bits)))) here ∙ ap (λ xs. b ∷ xs) (ap (λ xs. nat k (number xs)) (sym (append_assoc a (b ∷ []) bits)) ∙ nat_of_number k (a ++ (b ∷ [])) bits size)

-- the bits of a number that bits spell
pub nat-number : (bits : List Bool) (k : ℕ) → length bits ≡ k → nat k (number bits) ≡ bits
nat-number bits k e = nat_of_number k [] bits e

-- bits are known from their number
pub same_bits : (a b : List Bool) → length a ≡ length b → number a ≡ number b → a ≡ b
same_bits a b l e = sym (nat-number a (length a) refl) ∙ ap (nat (length a)) e ∙ nat-number b (length a) (sym l)

pub length-nat : (k n : ℕ) → length (nat k n) ≡ k
length-nat zero n = refl
length-nat (suc k) n = ap suc (length-nat k n)

pub number-nat : (k n : ℕ) → number (nat k n) ≡ n % 2 ^ k
number-nat zero n = omega arith
number-nat (suc k) n =
    let p = 2 ^ k in
    let b = n / p % 2 in
    let pos : 0 < p = pow_pos k in
    let up : 2 ^ suc k ≡ 2 * p = omega arith in
    let low : n % (2 * p) ≡ b * p + n % p = mod-mul n (omega arith) pos in
    number-cons (nat_eq b 1) (nat k n) ∙ ap (λ (x : ℕ). x * 2 ^ length (nat k n) + number (nat k n)) (bit_is b (omega arith))
    ∙ ap (λ (x : ℕ). b * 2 ^ x + number (nat k n)) (length-nat k n) ∙ ap (λ (x : ℕ). b * p + x) (number-nat k n) ∙ sym low ∙ ap (λ (x : ℕ). n % x) (sym up)
