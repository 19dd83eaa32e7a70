-- Octets that are the bits of others, of which the last are cut off.
use Rattle.std.proofs.Common.{◌≡◌, ℕ, zero, suc, ◌+◌, ◌-◌, ◌*◌, ◌/◌, ◌%◌, ◌^◌, ◌<◌, ◌≤◌, false, List, [], ◌∷◌, ◌++◌, length, map, take, drop, replicate, get_or, sym, refl, ap, ◌∙◌, arith}
use Rattle.std.specs.List.{range_with_len}
use Rattle.std.proofs.lemmas.List.{drop-replicate, get_or-drop, get_or-take, length-drop, length-take-le, take-append-drop, take_more}
use Rattle.std.proofs.lemmas.List.FromFn.{fill_by_all}
use Rattle.amr_bits.specs.Bits.{bit_at, bits_at, filled, number, number_at}
use Rattle.amr_bits.proofs.Copied.{kept_clear}
use Rattle.amr_bits.proofs.Filled.{bits-filled, filled-run, filled-short, length-filled, number-filled}
use Rattle.amr_bits.proofs.Places.{number_at-across, number_at-lt, number_at-within}
use Rattle.amr_bits.proofs.Runs.{length-run, run-append}

-- the first bits of an octet, and zeros behind them
cut : (c x : ℕ) → c < 8 → x < 256 → x / 2 ^ c % 2 ^ (8 - c) * 2 ^ c ≡ x / 2 ^ c * 2 ^ c
cut zero x h l = omega (arith, l)
cut (suc zero) x h l = omega (arith, l)
cut (suc (suc zero)) x h l = omega (arith, l)
cut (suc (suc (suc zero))) x h l = omega (arith, l)
cut (suc (suc (suc (suc zero)))) x h l = omega (arith, l)
cut (suc (suc (suc (suc (suc zero))))) x h l = omega (arith, l)
cut (suc (suc (suc (suc (suc (suc zero)))))) x h l = omega (arith, l)
cut (suc (suc (suc (suc (suc (suc (suc zero))))))) x h l = omega (arith, l)
cut (suc (suc (suc (suc (suc (suc (suc (suc n)))))))) x h l = absurd (omega (arith, h))

pub cleared : (c x : ℕ) → c < 8 → x < 256 → x / 2 ^ c * 2 ^ c % 256 ≡ x / 2 ^ c * 2 ^ c
cleared zero x h l = omega (arith, l)
cleared (suc zero) x h l = omega (arith, l)
cleared (suc (suc zero)) x h l = omega (arith, l)
cleared (suc (suc (suc zero))) x h l = omega (arith, l)
cleared (suc (suc (suc (suc zero)))) x h l = omega (arith, l)
cleared (suc (suc (suc (suc (suc zero))))) x h l = omega (arith, l)
cleared (suc (suc (suc (suc (suc (suc zero)))))) x h l = omega (arith, l)
cleared (suc (suc (suc (suc (suc (suc (suc zero))))))) x h l = omega (arith, l)
cleared (suc (suc (suc (suc (suc (suc (suc (suc n)))))))) x h l = absurd (omega (arith, h))

-- octet k of bits that begin at bit s
abbrev pub from_bit : List ℕ → ℕ → ℕ → ℕ
from_bit octets s k = number_at octets (8 * k + s) 8

-- the octets that bits fill, of which the last c are filled with zeros
pub filled_cut : (octets : List ℕ) (s n m c : ℕ) → n + c ≡ 8 * (m + 1) → c < 8
    → filled (bits_at octets s n)
    ≡ map (from_bit octets s) (range_with_len 0 m) ++ (from_bit octets s m / 2 ^ c * 2 ^ c ∷ [])
filled_cut octets s n m c all few =
    let r = 8 - c in
    let size : n ≡ 8 * m + r = omega (arith, all, few) in
    let t = s + 8 * m in
    let a = bits_at octets t r in
    let len : length a ≡ r = length-run octets t r in
    let gap : 8 - length a ≡ c = omega (arith, len, few) in
    let place : t ≡ 8 * m + s = omega arith in
    let part : number a ≡ from_bit octets s m / 2 ^ c % 2 ^ r =
    ap (λ p. number_at octets p r) (let e : t ≡ t + 0 = omega arith in e)
    ∙ number_at-within octets t 8 0 r c (omega (arith, few))
    ∙ ap (λ p. number_at octets p 8 / 2 ^ c % 2 ^ r) place in
    ap (λ k. filled (bits_at octets s k)) size
    ∙ filled-run octets s m r
    ∙ ap (λ xs. map (from_bit octets s) (range_with_len 0 m) ++ xs)
    (filled-short a (omega (arith, len, few)) (omega (arith, len))
    ∙ ap (λ k. number (a ++ replicate k false) ∷ []) gap
    ∙ ap (λ x. x ∷ []) (number-filled a c ∙ ap (λ x. x * 2 ^ c) part
    ∙ cut c (from_bit octets s m) few (number_at-lt octets (8 * m + s) 8)))

-- eight bits from bit 10 on
pub across_two : (octets : List ℕ) (k : ℕ) → get_or octets (k + 1) 0 < 256 → get_or octets (k + 2) 0 < 256
    → get_or octets (k + 1) 0 % 64 * 4 + get_or octets (k + 2) 0 / 64 ≡ number_at octets (8 * k + 10) 8
across_two octets k one two =
    let x = get_or octets (k + 1) 0 in
    let y = get_or octets (k + 2) 0 in
    let e : x % 64 * 4 + y / 64 ≡ (256 * x + y) / 2 ^ 6 % 256 = omega (arith, one, two) in
    let next : k + 2 ≡ k + 1 + 1 = omega arith in
    let place : 8 * (k + 1) + 2 ≡ 8 * k + 10 = omega arith in
    e ∙ ap (λ j. (256 * x + get_or octets j 0) / 2 ^ 6 % 256) next
    ∙ sym (number_at-across octets (k + 1) 2 (omega arith) one (omega (arith, two, ap (λ j. get_or octets j 0) next)))
    ∙ ap (λ p. number_at octets p 8) place

-- octets that are all 0
all_zero : (xs : List ℕ) → ((k : ℕ) → get_or xs k 0 ≡ 0) → xs ≡ replicate (length xs) 0
all_zero [] h = refl
all_zero (x ∷ xs) h = λ i. h 0 i ∷ all_zero xs (λ k. h (suc k)) i

-- octets that are those of bits from bit s on, cut behind n of them, with zeros behind
pub record IsCutFrom (octets made : List ℕ) (s n m c : ℕ) : Type 0 where
  pub all : n + c ≡ 8 * (m + 1)
  pub few : c < 8
  pub room : m < length made
  pub full : (k : ℕ) → k < m → get_or made k 0 ≡ from_bit octets s k
  pub last : get_or made m 0 ≡ from_bit octets s m / 2 ^ c * 2 ^ c
  pub zeros : (k : ℕ) → m < k → get_or made k 0 ≡ 0

-- they are what the bits fill, and zeros
made_of : (octets made : List ℕ) (s n m c : ℕ) → IsCutFrom octets made s n m c
    → made ≡ filled (bits_at octets s n) ++ drop (m + 1) (replicate (length made) 0)
made_of octets made s n m c h =
    let room = h.room in
    let f = from_bit octets s in
    let front : take m made ≡ map f (range_with_len 0 m) =
    fill_by_all f (take m made) m 0 (length-take-le m made (omega (arith, room)))
    (λ k l. get_or-take m made k 0 l ∙ h.full k l) in
    let more : take (m + 1) made ≡ take m made ++ (get_or made m 0 ∷ []) = take_more made m 0 room in
    let rest : drop (m + 1) made ≡ drop (m + 1) (replicate (length made) 0) =
    all_zero (drop (m + 1) made) (λ k. get_or-drop (m + 1) made k 0 ∙ h.zeros (m + 1 + k) (omega arith))
    ∙ ap (λ k. replicate k 0) (length-drop (m + 1) made)
    ∙ sym (drop-replicate (m + 1) (length made) 0) in
    let filled_is = filled_cut octets s n m c h.all h.few in
    sym (take-append-drop (m + 1) made)
    ∙ (λ i. (more ∙ (λ j. front j ++ (h.last j ∷ [])) ∙ sym filled_is) i ++ rest i)

-- past the bits there is no 1
pub cut_clear : (octets made : List ℕ) (s n m c k : ℕ) → IsCutFrom octets made s n m c → n ≤ k
    → bit_at made k ≡ false
cut_clear octets made s n m c k h past =
    let bits = bits_at octets s n in
    let size = length-run octets s n in
    ap (λ xs. bit_at xs k) (made_of octets made s n m c h)
    ∙ kept_clear bits (filled bits) (m + 1) (length made) k refl (omega (arith, past, size))

-- and before them they are the same
pub cut_bits : (octets made : List ℕ) (s n m c : ℕ) → IsCutFrom octets made s n m c
    → bits_at made 0 n ≡ bits_at octets s n
cut_bits octets made s n m c h =
    let bits = bits_at octets s n in
    let size = length-run octets s n in
    let whole = length-filled bits in
    ap (λ xs. bits_at xs 0 n) (made_of octets made s n m c h)
    ∙ run-append (filled bits) (drop (m + 1) (replicate (length made) 0)) n (omega (arith, whole, size))
    ∙ ap (bits_at (filled bits) 0) (sym size) ∙ bits-filled bits
