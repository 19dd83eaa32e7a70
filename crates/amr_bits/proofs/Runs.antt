-- Runs of bits: their parts, and the bits of octets as one run.
use Rattle.std.proofs.Common.{◌≡◌, ℕ, suc, zero, ◌+◌, ◌-◌, ◌*◌, ◌/◌, ◌%◌, ◌^◌, ◌≤◌, ◌<◌, List, [], ◌∷◌, ◌++◌, Bool, false, length, take, drop, map, get_or, refl, sym, ap, ◌∙◌, arith, nat_eq}
use Rattle.std.specs.List.{range_with_len}
use Rattle.std.proofs.Math.Nat.{zero-add, zero-div}
use Rattle.std.proofs.lemmas.List.{get_or-drop, get_or_append_left, get_or_past}
use Rattle.std.proofs.lemmas.List.FromFn.{take-map-range_with_len, length-map-range_with_len, get_or-map-range_with_len}
use Rattle.amr_bits.specs.Bits.{nat, bits_of, bit_at, bits_at, part}

pub length-run : (octets : List ℕ) (start len : ℕ) → length (bits_at octets start len) ≡ len
length-run octets start len = length-map-range_with_len (bit_at octets) start len

-- bit k of a run
pub run-get : (octets : List ℕ) (start len k : ℕ) → k < len → get_or (bits_at octets start len) k false ≡ bit_at octets (start + k)
run-get octets start len k h = get_or-map-range_with_len (bit_at octets) start len k (start + k) false h refl

-- a run is two runs, one behind the other
pub run-split : (octets : List ℕ) (start m n t : ℕ) → t ≡ start + m → bits_at octets start (m + n) ≡ bits_at octets start m ++ bits_at octets t n
run-split octets start zero n t e = ap (bits_at octets start) (zero-add n) ∙ ap (λ s. bits_at octets s n) (omega (arith, e))
run-split octets start (suc m) n t e =
    let size : suc m + n ≡ suc (m + n) = omega arith in
    ap (bits_at octets start) size ∙ ap (λ bs. bit_at octets start ∷ bs) (run-split octets (start + 1) m n t (omega (arith, e)))

-- a bit of the octets from the j-th on
pub bit_at-drop : (octets : List ℕ) (j s t : ℕ) → t ≡ s + 8 * j → bit_at (drop j octets) s ≡ bit_at octets t
bit_at-drop octets j s t e =
    let place : j + s / 8 ≡ t / 8 = omega arith in
    let inner : s % 8 ≡ t % 8 = omega arith in
    ap (λ (x : ℕ). nat_eq (x / 2 ^ (7 - s % 8) % 2) 1) (get_or-drop j octets (s / 8) 0) ∙ ap (λ (x : ℕ). nat_eq (get_or octets x 0 / 2 ^ (7 - s % 8) % 2) 1) place
    ∙ ap (λ (m : ℕ). nat_eq (get_or octets (t / 8) 0 / 2 ^ (7 - m) % 2) 1) inner

-- runs of two lists of octets that have the same bits there
pub run-same : (a b : List ℕ) (s t n : ℕ) → ((k : ℕ) → k < n → bit_at a (s + k) ≡ bit_at b (t + k)) → bits_at a s n ≡ bits_at b t n
run-same a b s t zero h = refl
run-same a b s t (suc n) h =
    let here : bit_at a s ≡ bit_at b t = ap (bit_at a) (omega arith) ∙ h 0 (omega arith) ∙ ap (bit_at b) (omega arith) in
    ap (λ x. x ∷ bits_at a (s + 1) n) here
    ∙ ap (λ xs. bit_at b t ∷ xs) (run-same a b (s + 1) (t + 1) n (λ k l. ap (bit_at a) (omega arith) ∙ h (k + 1) (omega arith) ∙ ap (bit_at b) (omega arith)))

-- a run of the octets from the j-th on
pub run-drop : (octets : List ℕ) (j s t n : ℕ) → t ≡ s + 8 * j → bits_at (drop j octets) s n ≡ bits_at octets t n
run-drop octets j s t n e = run-same (drop j octets) octets s t n (λ k l. bit_at-drop octets j (s + k) (t + k) (omega (arith, e)))

drop-range : (f : ℕ → Bool) (a from n : ℕ) → drop from (map f (range_with_len a (from + n))) ≡ map f (range_with_len (a + from) n)
drop-range f a zero n = ap (λ m. map f (range_with_len a m)) (zero-add n) ∙ ap (λ b. map f (range_with_len b n)) (omega arith)
drop-range f a (suc m) n =
    let size : suc m + n ≡ suc (m + n) = omega arith in
    let place : (a + 1) + m ≡ a + suc m = omega arith in
    ap (λ k. drop (suc m) (map f (range_with_len a k))) size ∙ drop-range f (a + 1) m n ∙ ap (λ b. map f (range_with_len b n)) place

pub run-rest : (octets : List ℕ) (start from all rest : ℕ) → all ≡ from + rest → drop from (bits_at octets start all) ≡ bits_at octets (start + from) rest
run-rest octets start from all rest e = ap (λ m. drop from (bits_at octets start m)) e ∙ drop-range (bit_at octets) start from rest

pub run-front : (octets : List ℕ) (start len all : ℕ) → len ≤ all → take len (bits_at octets start all) ≡ bits_at octets start len
run-front octets start len all h = take-map-range_with_len (bit_at octets) start all len h

no_bit : (p : ℕ) → nat_eq (0 / p % 2) 1 ≡ false
no_bit p = ap (λ (x : ℕ). nat_eq (x % 2) 1) (zero-div p)

-- a part of a run
pub run-part : (octets : List ℕ) (start from len all : ℕ) → from + len ≤ all → part from len (bits_at octets start all) ≡ bits_at octets (start + from) len
run-part octets start from len all fits =
    ap (take len) (run-rest octets start from all (all - from) (omega arith)) ∙ run-front octets (start + from) len (all - from) (omega arith)

-- the last m bits of octet k
octet-end : (octets : List ℕ) (k m t : ℕ) → m ≤ 8 → t + m ≡ 8 * k + 8 → bits_at octets t m ≡ nat m (get_or octets k 0)
octet-end octets k zero t h e = refl
octet-end octets k (suc m) t h e =
    let place : t / 8 ≡ k = omega arith in
    let inner : 7 - t % 8 ≡ m = omega arith in
    let here : bit_at octets t ≡ nat_eq (get_or octets k 0 / 2 ^ m % 2) 1 =
    ap (λ (x : ℕ). nat_eq (get_or octets x 0 / 2 ^ (7 - t % 8) % 2) 1) place ∙ ap (λ (x : ℕ). nat_eq (get_or octets k 0 / 2 ^ x % 2) 1) inner in
    ap (λ b. b ∷ bits_at octets (t + 1) m) here ∙ ap (λ bs. nat_eq (get_or octets k 0 / 2 ^ m % 2) 1 ∷ bs) (octet-end octets k m (t + 1) (omega arith) (omega arith))

-- the bits of octet k
pub run-octet : (octets : List ℕ) (k : ℕ) → bits_at octets (8 * k) 8 ≡ nat 8 (get_or octets k 0)
run-octet octets k = octet-end octets k 8 (8 * k) (omega arith) refl

-- all bits of the octets
pub run-all : (octets : List ℕ) → bits_at octets 0 (8 * length octets) ≡ bits_of octets
run-all [] = refl
run-all (x ∷ xs) =
    let size : 8 * length (x ∷ xs) ≡ 8 + 8 * length xs = omega arith in
    ap (bits_at (x ∷ xs) 0) size ∙ run-split (x ∷ xs) 0 8 (8 * length xs) 8 refl
    ∙ ap (λ bs. bs ++ bits_at (x ∷ xs) 8 (8 * length xs)) (run-octet (x ∷ xs) 0)
    ∙ ap (λ bs. nat 8 x ++ bs) (sym (run-drop (x ∷ xs) 1 0 8 (8 * length xs) refl) ∙ run-all xs)

-- a run is a part of all bits
pub run-is_part : (octets : List ℕ) (start len : ℕ) → start + len ≤ 8 * length octets → bits_at octets start len ≡ part start len (bits_of octets)
run-is_part octets start len h =
    sym (ap (part start len) (sym (run-all octets)) ∙ run-part octets 0 start len (8 * length octets) h ∙ ap (λ s. bits_at octets s len) (omega arith))

-- bits that stand in the front octets
pub run-append : (a b : List ℕ) (n : ℕ) → n ≤ 8 * length a → bits_at (a ++ b) 0 n ≡ bits_at a 0 n
run-append a b n h =
    run-same (a ++ b) a 0 0 n (λ k l. ap (λ (x : ℕ). nat_eq (x / 2 ^ (7 - (0 + k) % 8) % 2) 1) (get_or_append_left a b 0 ((0 + k) / 8) (omega arith)))

-- past the octets there is no 1
pub bit_at-past : (octets : List ℕ) (k : ℕ) → 8 * length octets ≤ k → bit_at octets k ≡ false
bit_at-past octets k h = ap (λ (x : ℕ). nat_eq (x / 2 ^ (7 - k % 8) % 2) 1) (get_or_past octets (k / 8) 0 (omega arith)) ∙ no_bit (2 ^ (7 - k % 8))
