-- Bits that are written behind others.
use Rattle.std.proofs.Common.{◌≡◌, ℕ, ◌+◌, ◌-◌, ◌*◌, ◌/◌, ◌%◌, ◌^◌, ◌<◌, ◌≤◌, Bool, false, List, [], ◌∷◌, ◌++◌, length, take, drop, set, min, replicate, get_or, bit_or, sym, ap, ◌∙◌, arith}
use Rattle.std.proofs.lemmas.List.{append_assoc, length-append, length-take-le, take_at, take-append-drop, take_more_set, drop-set-lt, drop_all}
use Rattle.std.proofs.lemmas.Nat.{or_shifted, shl_below, shr_below, shr_split, pow_below, pow-add}
use Rattle.std.proofs.Math.Nat.{mod-eq_of_lt, add-mul, mul_assoc}
use Rattle.amr_bits.specs.Bits.{number, bits_at, number_at, octets_for, filled}
use Rattle.amr_bits.specs.Written.{front}
use Rattle.amr_bits.proofs.Runs.{run-split, run-append, length-run}
use Rattle.amr_bits.proofs.Numbers.{number-append}
use Rattle.amr_bits.proofs.Filled.{filled-step, filled-front, number-filled, bits-filled, bits-whole, length-filled}
use Rattle.amr_bits.proofs.Places.{number_at-octet, number_at-within}

-- an octet of which the last r bits are cleared, and a number put there, with s bits behind it
pub shifts_put : (octet r value w s : ℕ) → octet < 256 → value < 2 ^ w → w + s ≡ r → r < 8 → bit_or (octet / 2 ^ r * 2 ^ r % 256) (value * 2 ^ s % 256) ≡ octet / 2 ^ r * 2 ^ r + value * 2 ^ s
shifts_put octet r value w s small below e h =
    let under : value * 2 ^ s < 2 ^ r = rw (ap (λ (x : ℕ). 2 ^ x) (sym e)) (shl_below value w s below) in
    let top : 2 ^ r < 2 ^ 8 = pow_below r 8 h in
    let kept : octet / 2 ^ r * 2 ^ r < 256 = omega (arith, small, shr_split octet r) in
    ap (λ (x : ℕ). bit_or x (value * 2 ^ s % 256)) (mod-eq_of_lt kept) ∙ ap (λ (x : ℕ). bit_or (octet / 2 ^ r * 2 ^ r) x) (mod-eq_of_lt (omega (arith, under, top)))
    ∙ or_shifted (octet / 2 ^ r) r (value * 2 ^ s) under

-- the begun octet
abbrev pub begun_octet : List ℕ → ℕ → ℕ → ℕ → ℕ → ℕ
begun_octet out at begun count v = get_or out at 0 / 2 ^ (8 - begun) * 2 ^ (8 - begun) + v * 2 ^ (8 - begun - count)

-- the number of the bits that were begun
number_begun : (out : List ℕ) (at begun : ℕ) → begun < 8 → get_or out at 0 < 256 → number_at out (8 * at) begun ≡ get_or out at 0 / 2 ^ (8 - begun)
number_begun out at begun h small =
    let o = get_or out at 0 in
    let all : begun + (8 - begun) ≡ 8 = omega arith in
    let under : o < 2 ^ (begun + (8 - begun)) = rw (ap (λ (x : ℕ). 2 ^ x) all) small in
    ap (λ t. number_at out t begun) (omega arith) ∙ number_at-within out (8 * at) 8 0 begun (8 - begun) (omega arith)
    ∙ ap (λ (x : ℕ). x / 2 ^ (8 - begun) % 2 ^ begun) (number_at-octet out at small) ∙ mod-eq_of_lt (shr_below o begun (8 - begun) under)

-- the octets that begun bits and a run behind them fill
pub filled_begun : (out : List ℕ) (at begun : ℕ) (bits : List Bool) (count v : ℕ) → 0 < begun → begun < 8 → get_or out at 0 < 256 → count ≡ min (length bits) (8 - begun) → v ≡ number (take count bits)
    → filled (bits_at out (8 * at) begun ++ bits) ≡ begun_octet out at begun count v ∷ filled (drop count bits)
filled_begun out at begun bits count v low high small is e =
    let b = bits_at out (8 * at) begun in
    let first = take count bits in
    let rest = drop count bits in
    let room = 8 - begun in
    let size : length first ≡ count = length-take-le count bits (omega (arith, is)) in
    let all : length (b ++ first) ≡ begun + count = omega (arith, length-append b first, length-run out (8 * at) begun, size) in
    let split : b ++ bits ≡ (b ++ first) ++ rest = ap (λ xs. b ++ xs) (sym (take-append-drop count bits)) ∙ sym (append_assoc b first rest) in
    let last : length (b ++ first) < 8 → rest ≡ [] = λ short. drop_all count bits (omega (arith, is, all, short)) in
    let value : number (b ++ first) ≡ get_or out at 0 / 2 ^ room * 2 ^ count + v =
    number-append b first ∙ ap (λ (x : ℕ). number b * 2 ^ x + number first) size ∙ ap (λ (x : ℕ). x * 2 ^ count + number first) (number_begun out at begun high small)
    ∙ ap (λ (x : ℕ). get_or out at 0 / 2 ^ room * 2 ^ count + x) (sym e) in
    let gap : 8 - length (b ++ first) ≡ room - count = omega (arith, all) in
    let up : count + (room - count) ≡ room = omega (arith, is) in
    let o = get_or out at 0 / 2 ^ room in
    ap filled split ∙ filled-step (b ++ first) rest (omega (arith, all)) (omega (arith, all, is)) last
    ∙ ap (λ n. number ((b ++ first) ++ replicate n false) ∷ filled rest) gap
    ∙ ap (λ (x : ℕ). x ∷ filled rest)
    (number-filled (b ++ first) (room - count) ∙ ap (λ (x : ℕ). x * 2 ^ (room - count)) value ∙ add-mul (o * 2 ^ count) v (2 ^ (room - count))
    ∙ ap (λ (x : ℕ). x + v * 2 ^ (room - count)) (mul_assoc o (2 ^ count) (2 ^ (room - count)) ∙ ap (λ (x : ℕ). o * x) (sym (pow-add 2 count (room - count)) ∙ ap (λ (x : ℕ). 2 ^ x) up)))

-- written on an octet's edge
pub written_even : (out : List ℕ) (at w : ℕ) (bits : List Bool) → w ≡ 8 * at → at ≤ length out → ((k : ℕ) → get_or out k 0 < 256)
    → (take at out ++ filled bits) ++ drop (at + octets_for (length bits)) out ≡ filled (front out w ++ bits) ++ drop (octets_for (w + length bits)) out
written_even out at w bits e h small =
    let end : at + octets_for (length bits) ≡ octets_for (w + length bits) = omega (arith, e) in
    ap (λ n. (take at out ++ filled bits) ++ drop n out) end
    ∙ ap (λ xs. xs ++ drop (octets_for (w + length bits)) out) (sym (filled-front out at bits h small) ∙ ap (λ n. filled (front out n ++ bits)) (sym e))

-- written behind begun bits
pub written_odd : (out : List ℕ) (at begun w : ℕ) (bits : List Bool) (count v : ℕ) → w ≡ 8 * at + begun → 0 < begun → begun < 8 → at < length out → ((k : ℕ) → get_or out k 0 < 256) → count ≡ min (length bits) (8 - begun) → v ≡ number (take count bits)
    → (take (at + 1) (set out at (begun_octet out at begun count v)) ++ filled (drop count bits)) ++ drop (at + 1 + octets_for (length bits - count)) (set out at (begun_octet out at begun count v)) ≡ filled (front out w ++ bits) ++ drop (octets_for (w + length bits)) out
written_odd out at begun w bits count v e low high h small is val =
    let x = begun_octet out at begun count v in
    let end : at + 1 + octets_for (length bits - count) ≡ octets_for (w + length bits) = omega (arith, e, is) in
    let rest = drop count bits in
    let all : front out w ≡ bits_at out 0 (8 * at) ++ bits_at out (8 * at) begun = ap (bits_at out 0) e ∙ run-split out 0 (8 * at) begun (8 * at) (omega arith) in
    let filled_all : filled (front out w ++ bits) ≡ take at out ++ (x ∷ filled rest) =
    ap (λ xs. filled (xs ++ bits)) all ∙ ap filled (append_assoc (bits_at out 0 (8 * at)) (bits_at out (8 * at) begun) bits)
    ∙ filled-front out at (bits_at out (8 * at) begun ++ bits) (omega arith) small
    ∙ ap (λ xs. take at out ++ xs) (filled_begun out at begun bits count v low high (small at) is val) in
    ap (λ xs. (xs ++ filled rest) ++ drop (at + 1 + octets_for (length bits - count)) (set out at x)) (take_more_set out at x h)
    ∙ ap (λ xs. ((take at out ++ (x ∷ [])) ++ filled rest) ++ xs) (drop-set-lt (at + 1 + octets_for (length bits - count)) out at x (omega arith) ∙ ap (λ n. drop n out) end)
    ∙ ap (λ xs. xs ++ drop (octets_for (w + length bits)) out) (append_assoc (take at out) (x ∷ []) (filled rest) ∙ sym filled_all)

-- what stands in front after a write
pub front_of : (now later : List ℕ) (bits : List Bool) (n : ℕ) → length bits ≡ n → now ≡ filled bits ++ later → front now n ≡ bits
front_of now later bits n e is =
    ap (λ xs. front xs n) is ∙ run-append (filled bits) later n (omega (arith, e, length-filled bits)) ∙ ap (bits_at (filled bits) 0) (sym e) ∙ bits-filled bits

-- and up to a whole octet
pub front_whole : (now later : List ℕ) (bits : List Bool) (m n : ℕ) → length bits ≡ n → m ≡ octets_for n → now ≡ filled bits ++ later → front now (8 * m) ≡ bits ++ replicate (8 * m - n) false
front_whole now later bits m n e h is =
    let gap : length bits + (8 * m - n) ≡ 8 * octets_for (length bits) = omega (arith, e, h) in
    let size : 8 * m ≡ length bits + (8 * m - n) = omega (arith, e, h) in
    ap (λ xs. front xs (8 * m)) is ∙ run-append (filled bits) later (8 * m) (omega (arith, e, h, length-filled bits)) ∙ ap (bits_at (filled bits) 0) size ∙ bits-whole bits (8 * m - n) gap

-- the octets in front after a write
pub octets_of : (now later : List ℕ) (bits : List Bool) (n : ℕ) → length bits ≡ n → now ≡ filled bits ++ later → take (octets_for n) now ≡ filled bits
octets_of now later bits n e is = ap (take (octets_for n)) is ∙ take_at (filled bits) later (octets_for n) (length-filled bits ∙ ap octets_for e)
