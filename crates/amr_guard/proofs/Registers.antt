-- The number of a CRC with more bits behind.
use Rattle.std.proofs.Common.{◌≡◌, ℕ, ◌+◌, ◌-◌, ◌*◌, ◌/◌, ◌%◌, ◌^◌, ◌<◌, ◌≤◌, Bool, false, List, ◌++◌, length, take, drop, replicate, sym, ap, ◌∙◌, arith}
use Rattle.std.specs.Prelude.{bit_xor}
use Rattle.std.proofs.lemmas.List.{length-append, append_assoc, length-replicate, take-append-drop, length-take-le, length-drop}
use Rattle.std.proofs.lemmas.Nat.{div-mul-add, mod-mul-add, xor_lt, pow_below}
use Rattle.std.proofs.Math.Nat.{zero-mul}
use Rattle.amr_bits.specs.Bits.{nat, number}
use Rattle.amr_bits.proofs.Numbers.{nat-number, number-append, number-zeros, number-lt}
use Rattle.spec_payload.specs.FrameCrc.{plus, crc_of}
use Rattle.spec_payload.proofs.Sums.{length-plus, length-crc}
use Rattle.amr_guard.proofs.Sums.{number-plus}
use Rattle.amr_guard.proofs.Division.{crc-zeros, crc-append}

-- the number of the CRC of an octet's bits
abbrev pub of_octet : ℕ → ℕ
of_octet n = number (crc_of (nat 8 n))

-- the CRC of up to eight bits is that of the octet which they spell
of_bits : (d : List Bool) (j : ℕ) → length d ≡ j → j ≤ 8 → of_octet (number d) ≡ number (crc_of d)
of_bits d j l h =
    let zeros = replicate (8 - j) false in
    let size : length (zeros ++ d) ≡ 8 = length-append zeros d ∙ omega (arith, length-replicate (8 - j) false) in
    let spelled : number (zeros ++ d) ≡ number d =
    number-append zeros d ∙ ap (λ (n : ℕ). n * 2 ^ length d + number d) (number-zeros (8 - j)) ∙ omega (arith, zero-mul (2 ^ length d)) in
    ap (λ (n : ℕ). number (crc_of (nat 8 n))) (sym spelled) ∙ ap (λ w. number (crc_of w)) (nat-number (zeros ++ d) 8 size) ∙ ap number (crc-zeros (8 - j) d)

-- the number of the front bits
number-front : (a b : List Bool) (k : ℕ) → length b ≡ k → number (a ++ b) / 2 ^ k ≡ number a
number-front a b k l =
    ap (λ (n : ℕ). number (a ++ b) / 2 ^ n) (sym l) ∙ ap (λ (n : ℕ). n / 2 ^ length b) (number-append a b) ∙ div-mul-add (number a) (2 ^ length b) (number b) (number-lt b)

-- the number of bits that are shifted out of an octet
number-shifted : (a b : List Bool) (j : ℕ) → length (b ++ replicate j false) ≡ 8 → number (a ++ b) * 2 ^ j % 256 ≡ number (b ++ replicate j false)
number-shifted a b j l =
    let zeros = replicate j false in
    let c = b ++ zeros in
    let under : number c < 256 = ap_lt (number-lt c) in
    let moved : number (a ++ b) * 2 ^ j ≡ number (a ++ c) =
    sym (ap number (sym (append_assoc a b zeros)) ∙ number-append (a ++ b) zeros ∙ ap (λ (n : ℕ). number (a ++ b) * 2 ^ n + number zeros) (length-replicate j false) ∙ omega (arith, number-zeros j)) in
    ap (λ (n : ℕ). n % 256) (moved ∙ number-append a c ∙ ap (λ (n : ℕ). number a * 2 ^ n + number c) l) ∙ mod-mul-add (number a) 256 (number c) under
  where
    ap_lt : number (b ++ replicate j false) < 2 ^ length (b ++ replicate j false) → number (b ++ replicate j false) < 256
    ap_lt h = let e : 2 ^ length (b ++ replicate j false) ≡ 256 = ap (λ (n : ℕ). 2 ^ n) l in omega (arith, e, h)

-- up to eight bits more
pub crc_more : (a c : List Bool) (j r v : ℕ) → j ≤ 8 → number (crc_of a) ≡ r → length c ≡ j → number c ≡ v
    → bit_xor (of_octet (bit_xor (r / 2 ^ (8 - j)) v)) (r * 2 ^ j % 256) ≡ number (crc_of (a ++ c))
crc_more a c j r v h is l value =
    let w = crc_of a in
    let front = take j w in
    let back = drop j w in
    let rest = back ++ replicate j false in
    let of_front : length front ≡ j = length-take-le j w (omega (arith, length-crc a)) in
    let of_back : length back ≡ 8 - j = length-drop j w ∙ ap (λ (n : ℕ). n - j) (length-crc a) in
    let of_rest : length rest ≡ 8 = length-append back (replicate j false) ∙ omega (arith, length-replicate j false) in
    let whole : number (front ++ back) ≡ r = ap number (take-append-drop j w) ∙ is in
    let high : r / 2 ^ (8 - j) ≡ number front = ap (λ (n : ℕ). n / 2 ^ (8 - j)) (sym whole) ∙ number-front front back (8 - j) of_back in
    let low : r * 2 ^ j % 256 ≡ number rest = ap (λ (n : ℕ). n * 2 ^ j % 256) (sym whole) ∙ number-shifted front back j of_rest in
    let sum : bit_xor (r / 2 ^ (8 - j)) v ≡ number (plus front c) =
    ap (λ (n : ℕ). bit_xor n v) high ∙ ap (bit_xor (number front)) (sym value) ∙ sym (number-plus front c (omega arith)) in
    let of_sum : length (plus front c) ≡ j = length-plus front c ∙ of_front in
    let table : of_octet (bit_xor (r / 2 ^ (8 - j)) v) ≡ number (crc_of (plus front c)) = ap of_octet sum ∙ of_bits (plus front c) j of_sum h in
    ap (λ (n : ℕ). bit_xor n (r * 2 ^ j % 256)) table ∙ ap (bit_xor (number (crc_of (plus front c)))) low
    ∙ sym (ap number (crc-append a c j l h) ∙ number-plus (crc_of (plus front c)) rest (length-crc (plus front c) ∙ sym of_rest))

-- the sum that is looked up is an octet
pub looked_up : (j r v : ℕ) → j ≤ 7 → r < 256 → v < 2 ^ j → bit_xor (r / 2 ^ (8 - j)) v < 256
looked_up j r v h small under = xor_lt 8 (r / 2 ^ (8 - j)) v (below j h) (wide j h under)
  where
    below : (j : ℕ) → j ≤ 7 → r / 2 ^ (8 - j) < 256
    below j h = omega arith

    wide : (j : ℕ) → j ≤ 7 → v < 2 ^ j → v < 256
    wide j h u = let e : 2 ^ j < 2 ^ 8 = pow_below j 8 (omega arith) in omega (arith, u, e)
