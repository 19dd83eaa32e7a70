-- Octets that bits fill, octet by octet.
use Rattle.std.proofs.Common.{◌≡◌, ℕ, zero, suc, ◌+◌, ◌-◌, ◌*◌, ◌^◌, ◌<◌, ◌≤◌, Bool, false, List, [], ◌∷◌, ◌++◌, length, take, drop, map, replicate, get_or, sym, refl, ap, ◌∙◌, arith, inl, inr}
use Rattle.std.specs.List.{range_with_len}
use Rattle.std.proofs.lemmas.Bool.{cases_lt}
use Rattle.std.proofs.lemmas.List.{length-append, append_assoc, append-nil, take_at, drop_at, drop-drop, take-replicate, take-append-drop, length-replicate, length-take-le, length-drop, get_or-append_right, get_or-replicate, length-take, get_or_past}
use Rattle.std.proofs.lemmas.List.FromFn.{length-map-range_with_len, get_or-map-range_with_len}
use Rattle.std.proofs.Math.Nat.{zero-add, mod-eq_of_lt, pow-le-pow_right}
use Rattle.std.proofs.Math.Seq.{take-append-add}
use Rattle.amr_bits.specs.Bits.{nat, number, bit_at, bits_at, number_at, part, octets_for, filled}
use Rattle.amr_bits.proofs.Numbers.{nat-number, number-nat, number-append, number-zeros, length-nat, number-lt}
use Rattle.amr_bits.proofs.Runs.{run-split, run-front, run-octet, run-drop, run-get, length-run, bit_at-past}

-- one octet of them
abbrev pub octet_of : List Bool → ℕ → ℕ
octet_of bits k = number (part (8 * k) 8 (bits ++ replicate 7 false))

pub map-shift : (f g : ℕ → ℕ) (a b n : ℕ) → ((k : ℕ) → f (a + k) ≡ g (b + k)) → map f (range_with_len a n) ≡ map g (range_with_len b n)
map-shift f g a b zero h = refl
map-shift f g a b (suc n) h =
    let here : f a ≡ g b = ap f (omega arith) ∙ h 0 ∙ ap g (omega arith) in
    ap (λ (x : ℕ). x ∷ map f (range_with_len (a + 1) n)) here
    ∙ ap (λ xs. g b ∷ xs) (map-shift f g (a + 1) (b + 1) n (λ k. ap f (omega arith) ∙ h (k + 1) ∙ ap g (omega arith)))

-- the front octet, where more follows
pub filled-cons : (a rest : List Bool) → length a ≡ 8 → filled (a ++ rest) ≡ number a ∷ filled rest
filled-cons a rest e =
    let all = (a ++ rest) ++ replicate 7 false in
    let same : all ≡ a ++ (rest ++ replicate 7 false) = append_assoc a rest (replicate 7 false) in
    let size : octets_for (length (a ++ rest)) ≡ suc (octets_for (length rest)) = omega (arith, e, length-append a rest) in
    let first : octet_of (a ++ rest) 0 ≡ number a = ap (λ xs. number (take 8 xs)) same ∙ ap number (take_at a (rest ++ replicate 7 false) 8 e) in
    let behind : drop 8 all ≡ rest ++ replicate 7 false = ap (drop 8) same ∙ drop_at a (rest ++ replicate 7 false) 8 e in
    ap (λ n. map (octet_of (a ++ rest)) (range_with_len 0 n)) size
    ∙ ap (λ (x : ℕ). x ∷ map (octet_of (a ++ rest)) (range_with_len 1 (octets_for (length rest)))) first
    ∙ ap (λ xs. number a ∷ xs)
    (map-shift (octet_of (a ++ rest)) (octet_of rest) 1 0 (octets_for (length rest)) (λ k.
    let there : 8 * (1 + k) ≡ 8 + 8 * (0 + k) = omega arith in
    ap (λ n. number (take 8 (drop n all))) there ∙ ap (λ xs. number (take 8 xs)) (sym (drop-drop (8 * (0 + k)) 8 all))
    ∙ ap (λ xs. number (part (8 * (0 + k)) 8 xs)) behind))

-- fewer bits than an octet has
pub filled-short : (a : List Bool) → 0 < length a → length a ≤ 8 → filled a ≡ number (a ++ replicate (8 - length a) false) ∷ []
filled-short a low high =
    let size : octets_for (length a) ≡ 1 = omega arith in
    let whole : 8 ≡ length a + (8 - length a) = omega arith in
    let bits : take 8 (a ++ replicate 7 false) ≡ a ++ replicate (8 - length a) false =
    ap (λ n. take n (a ++ replicate 7 false)) whole ∙ take-append-add a (replicate 7 false) (8 - length a) ∙ ap (λ xs. a ++ xs) (take-replicate (8 - length a) 7 false (omega arith)) in
    ap (λ n. map (octet_of a) (range_with_len 0 n)) size ∙ ap (λ xs. number xs ∷ []) bits

-- the front octet, which only the last bits leave unfilled
pub filled-step : (a rest : List Bool) → 0 < length a → length a ≤ 8 → (length a < 8 → rest ≡ []) → filled (a ++ rest) ≡ number (a ++ replicate (8 - length a) false) ∷ filled rest
filled-step a rest low high last =
    elim (cases_lt (length a) 8) [
      | inl short ↦
          let none : rest ≡ [] = last short in
          rw none (rw (append-nil a) (filled-short a low high))
      | inr full ↦
          let size : length a ≡ 8 = omega arith in
          let nothing : 8 - length a ≡ 0 = omega arith in
          rw nothing (rw (append-nil a) (filled-cons a rest size))
    ]

-- the number of bits that are filled up to an octet
pub number-filled : (a : List Bool) (c : ℕ) → number (a ++ replicate c false) ≡ number a * 2 ^ c
number-filled a c =
    number-append a (replicate c false) ∙ ap (λ (x : ℕ). number a * 2 ^ x + number (replicate c false)) (length-replicate c false)
    ∙ ap (λ (x : ℕ). number a * 2 ^ c + x) (number-zeros c) ∙ omega arith

-- the bits of filled octets
bits_in : (n : ℕ) (bits : List Bool) (c : ℕ) → length bits ≤ 8 * n → length bits + c ≡ 8 * octets_for (length bits) → bits_at (filled bits) 0 (length bits + c) ≡ bits ++ replicate c false
bits_in n [] c h e = let none : c ≡ 0 = omega arith in rw none refl
bits_in zero (b ∷ bits) c h e = absurd (omega arith)
bits_in (suc n) (b ∷ bits) c h e =
    let xs = b ∷ bits in
    elim (cases_lt 8 (length xs)) [
      | inl more ↦
          let a = take 8 xs in
          let rest = drop 8 xs in
          let whole : a ++ rest ≡ xs = take-append-drop 8 xs in
          let full : length a ≡ 8 = length-take-le 8 xs (omega arith) in
          let left : length xs ≡ 8 + length rest = omega (arith, length-drop 8 xs) in
          let ends : length xs + c ≡ 8 + (length rest + c) = omega (arith, left) in
          let made : filled xs ≡ number a ∷ filled rest = ap filled (sym whole) ∙ filled-cons a rest full in
          let o = number a ∷ filled rest in
          ap (λ ys. bits_at ys 0 (length xs + c)) made ∙ ap (bits_at o 0) ends ∙ run-split o 0 8 (length rest + c) 8 refl
          ∙ ap (λ ys. ys ++ bits_at o 8 (length rest + c)) (run-octet o 0 ∙ nat-number a 8 full)
          ∙ ap (λ ys. a ++ ys) (sym (run-drop o 1 0 8 (length rest + c) refl) ∙ bits_in n rest c (omega arith) (omega arith)) ∙ sym (append_assoc a rest (replicate c false))
          ∙ ap (λ ys. ys ++ replicate c false) whole
      | inr last ↦
          let size : 8 - length xs ≡ c = omega arith in
          let o = number (xs ++ replicate c false) ∷ [] in
          let full : length (xs ++ replicate c false) ≡ 8 = omega (arith, length-append xs (replicate c false), length-replicate c false) in
          let ends : length xs + c ≡ 8 = omega arith in
          ap (λ ys. bits_at ys 0 (length xs + c)) (filled-short xs (omega arith) last ∙ ap (λ m. number (xs ++ replicate m false) ∷ []) size)
          ∙ ap (bits_at o 0) ends ∙ run-octet o 0 ∙ nat-number (xs ++ replicate c false) 8 full
    ]

-- up to a whole octet
pub bits-whole : (bits : List Bool) (c : ℕ) → length bits + c ≡ 8 * octets_for (length bits) → bits_at (filled bits) 0 (length bits + c) ≡ bits ++ replicate c false
bits-whole bits c e = bits_in (length bits) bits c (omega arith) e

-- how many zeros fill them
abbrev pub gap : List Bool → ℕ
gap bits = 8 * octets_for (length bits) - length bits

pub gap_fills : (bits : List Bool) → length bits + gap bits ≡ 8 * octets_for (length bits)
gap_fills bits = omega arith

pub bits-filled : (bits : List Bool) → bits_at (filled bits) 0 (length bits) ≡ bits
bits-filled bits =
    sym (run-front (filled bits) 0 (length bits) (length bits + gap bits) (omega arith))
    ∙ ap (take (length bits)) (bits-whole bits (gap bits) (gap_fills bits)) ∙ take_at bits (replicate (gap bits) false) (length bits) refl

pub length-filled : (bits : List Bool) → length (filled bits) ≡ octets_for (length bits)
length-filled bits = length-map-range_with_len (octet_of bits) 0 (octets_for (length bits))

-- past the bits there is no 1
pub filled-past : (bits : List Bool) (k : ℕ) → length bits ≤ k → bit_at (filled bits) k ≡ false
filled-past bits k h =
    elim (cases_lt k (length bits + gap bits)) [
      | inl within ↦
          sym (run-get (filled bits) 0 (length bits + gap bits) k within ∙ ap (bit_at (filled bits)) (omega arith))
          ∙ ap (λ xs. get_or xs k false) (bits-whole bits (gap bits) (gap_fills bits))
          ∙ get_or-append_right bits (replicate (gap bits) false) (length bits) k false refl h
          ∙ get_or-replicate (gap bits) (k - length bits) false false (omega arith)
      | inr past ↦ bit_at-past (filled bits) k (omega (arith, length-filled bits))
    ]

-- whole octets in front stay as they are
pub filled-front : (octets : List ℕ) (n : ℕ) (bits : List Bool) → n ≤ length octets → ((k : ℕ) → get_or octets k 0 < 256) → filled (bits_at octets 0 (8 * n) ++ bits) ≡ take n octets ++ filled bits
filled-front octets zero bits h small = refl
filled-front [] (suc n) bits h small = absurd (omega arith)
filled-front (x ∷ xs) (suc n) bits h small =
    let size : 8 * suc n ≡ 8 + 8 * n = omega arith in
    let first : number (nat 8 x) ≡ x = number-nat 8 x ∙ mod-eq_of_lt (small 0) in
    ap (λ m. filled (bits_at (x ∷ xs) 0 m ++ bits)) size
    ∙ ap (λ ys. filled (ys ++ bits)) (run-split (x ∷ xs) 0 8 (8 * n) 8 refl ∙ ap (λ ys. ys ++ bits_at (x ∷ xs) 8 (8 * n)) (run-octet (x ∷ xs) 0) ∙ ap (λ ys. nat 8 x ++ ys) (sym (run-drop (x ∷ xs) 1 0 8 (8 * n) refl)))
    ∙ ap filled (append_assoc (nat 8 x) (bits_at xs 0 (8 * n)) bits)
    ∙ filled-cons (nat 8 x) (bits_at xs 0 (8 * n) ++ bits) (length-nat 8 x)
    ∙ ap (λ (y : ℕ). y ∷ filled (bits_at xs 0 (8 * n) ++ bits)) first
    ∙ ap (λ ys. x ∷ ys) (filled-front xs n bits (omega arith) (λ k. small (suc k)))

-- the octets that a run fills: whole ones, and what is left
pub filled-run : (octets : List ℕ) (s m r : ℕ) → filled (bits_at octets s (8 * m + r)) ≡ map (λ k. number_at octets (8 * k + s) 8) (range_with_len 0 m) ++ filled (bits_at octets (s + 8 * m) r)
filled-run octets s zero r = ap (λ n. filled (bits_at octets s n)) (zero-add r) ∙ ap (λ t. filled (bits_at octets t r)) (omega arith)
filled-run octets s (suc m) r =
    let size : 8 * suc m + r ≡ 8 + (8 * m + r) = omega arith in
    let there : s + 8 + 8 * m ≡ s + 8 * suc m = omega arith in
    let place : s ≡ 8 * 0 + s = omega arith in
    ap (λ n. filled (bits_at octets s n)) size ∙ ap filled (run-split octets s 8 (8 * m + r) (s + 8) refl)
    ∙ filled-cons (bits_at octets s 8) (bits_at octets (s + 8) (8 * m + r)) (length-run octets s 8)
    ∙ ap (λ t. number_at octets t 8 ∷ filled (bits_at octets (s + 8) (8 * m + r))) place
    ∙ ap (λ xs. number_at octets (8 * 0 + s) 8 ∷ xs) (filled-run octets (s + 8) m r
    ∙ ap (λ xs. xs ++ filled (bits_at octets (s + 8 + 8 * m) r)) (map-shift (λ k. number_at octets (8 * k + (s + 8)) 8) (λ k. number_at octets (8 * k + s) 8) 0 1 m (λ k. ap (λ t. number_at octets t 8) (omega arith)))
    ∙ ap (λ t. map (λ k. number_at octets (8 * k + s) 8) (range_with_len 1 m) ++ filled (bits_at octets t r)) there)

pub filled-lt : (bits : List Bool) (k : ℕ) → get_or (filled bits) k 0 < 256
filled-lt bits k =
    let xs = part (8 * k) 8 (bits ++ replicate 7 false) in
    let size : length xs ≤ 8 = omega (arith, length-take 8 (drop (8 * k) (bits ++ replicate 7 false))) in
    let small : number xs < 2 ^ length xs = number-lt xs in
    let top : 2 ^ length xs ≤ 2 ^ 8 = pow-le-pow_right (omega arith) size in
    elim (cases_lt k (octets_for (length bits))) [
      | inl within ↦ rw (get_or-map-range_with_len (octet_of bits) 0 (octets_for (length bits)) k k 0 within (zero-add k)) (omega (arith, small, top))
      | inr past ↦ rw (get_or_past (filled bits) k 0 (omega (arith, past, length-filled bits))) (omega arith)
    ]
