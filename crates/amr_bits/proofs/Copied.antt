-- What a copy by whole octets leaves.
use Rattle.std.proofs.Common.{◌≡◌, ℕ, zero, suc, ◌+◌, ◌-◌, ◌*◌, ◌/◌, ◌%◌, ◌^◌, ◌<◌, ◌≤◌, Bool, false, nat_eq, List, [], ◌∷◌, ◌++◌, length, take, drop, map, set, replicate, get_or, sym, refl, ap, ◌∙◌, arith, inl, inr}
use Rattle.std.specs.List.{range_with_len}
use Rattle.std.proofs.lemmas.Bool.{cases_lt}
use Rattle.std.proofs.lemmas.List.{append-nil, set_at, drop_more, drop_all, get_or_append_left, get_or-append_right, get_or-replicate, get_or_past, drop-replicate, length-replicate, get_or-take, length-take-le, get_or-set_other, length-append}
use Rattle.std.proofs.lemmas.Grind.{get_or-set_at}
use Rattle.std.proofs.lemmas.List.Edits.{fill_by_more}
use Rattle.std.proofs.lemmas.List.FromFn.{fill_by_all}
use Rattle.std.proofs.lemmas.Nat.{shl_below, one_shl}
use Rattle.std.proofs.Math.Nat.{mod-eq_of_lt}
use Rattle.amr_bits.specs.Bits.{number, bit_at, bits_at, number_at, filled}
use Rattle.amr_bits.proofs.Runs.{run-drop, length-run}
use Rattle.amr_bits.proofs.Filled.{map-shift, filled-run, filled-short, number-filled, filled-past}
use Rattle.amr_bits.proofs.Places.{number_at-octet, number_at-within, number_at-lt}

-- a loop that writes f k at each place k, one place on
pub fill_step : (f : ℕ → ℕ) (xs : List ℕ) (i v : ℕ) → i < length xs → v ≡ f i → ((k : ℕ) → k < i → get_or xs k 0 ≡ f k) → (k : ℕ) → k < i + 1 → get_or (set xs i v) k 0 ≡ f k
fill_step f xs i v l e h k q = ap (λ (x : ℕ). get_or (set xs i x) k 0) e ∙ fill_by_more f xs i 0 l h k q

-- an octet of a block that is written, of which the first m are known
pub put_front : (f : ℕ → ℕ) (xs made rest : List ℕ) (at n m k : ℕ) → at ≤ length xs → length made ≡ n → m ≤ n → at ≤ k → k < at + m → ((j : ℕ) → j < m → get_or made j 0 ≡ f (at + j)) → get_or (take at xs ++ (made ++ rest)) k 0 ≡ f k
put_front f xs made rest at n m k fits size part low high h =
    get_or-append_right (take at xs) (made ++ rest) at k 0 (length-take-le at xs fits) low
    ∙ get_or_append_left made rest 0 (k - at) (omega (arith, size)) ∙ h (k - at) (omega arith) ∙ ap f (omega arith)

-- an octet of a block that is written
pub put_block : (f : ℕ → ℕ) (xs made rest : List ℕ) (at n k : ℕ) → at ≤ length xs → length made ≡ n → at ≤ k → k < at + n → ((j : ℕ) → j < n → get_or made j 0 ≡ f (at + j)) → get_or (take at xs ++ (made ++ rest)) k 0 ≡ f k
put_block f xs made rest at n k fits size low high h = put_front f xs made rest at n n k fits size (omega arith) low high h

-- one octet more behind those of a block that are known
pub put_last : (f : ℕ → ℕ) (xs : List ℕ) (at m v k : ℕ) → at + m < length xs → v ≡ f (at + m) → ((k : ℕ) → at ≤ k → k < at + m → get_or xs k 0 ≡ f k) → at ≤ k → k < at + (m + 1) → get_or (set xs (at + m) v) k 0 ≡ f k
put_last f xs at m v k within e h low high =
    elim (cases_lt k (at + m)) [
      | inl before ↦ get_or-set_other xs (at + m) k v 0 (λ q. absurd (omega (arith, q, before))) ∙ h k low before
      | inr last ↦
          let here : k ≡ at + m = omega arith in
          get_or-set_at xs (at + m) k v 0 here within ∙ e ∙ ap f (sym here)
    ]

-- a block that is written stands within
pub put_within : (xs made rest : List ℕ) (at n m : ℕ) → at ≤ length xs → length made ≡ n → m < n → at + m < length (take at xs ++ (made ++ rest))
put_within xs made rest at n m fits size low =
    omega (arith, size, length-append (take at xs) (made ++ rest), length-append made rest, length-take-le at xs fits)

-- what stands before a block that is written, and before an octet of it
pub put_before : (xs made rest : List ℕ) (at m v k : ℕ) → at ≤ length xs → k < at → get_or (set (take at xs ++ (made ++ rest)) (at + m) v) k 0 ≡ get_or xs k 0
put_before xs made rest at m v k fits h =
    get_or-set_other (take at xs ++ (made ++ rest)) (at + m) k v 0 (λ q. absurd (omega (arith, q, h)))
    ∙ get_or_append_left (take at xs) (made ++ rest) 0 k (omega (arith, length-take-le at xs fits)) ∙ get_or-take at xs k 0 h

-- a block more behind the octets that are copied, or over the last of them
pub block_more : (f : ℕ → ℕ) (xs ys : List ℕ) (done at n : ℕ) → at ≤ done → ((k : ℕ) → k < done → get_or xs k 0 ≡ f k) → ((k : ℕ) → k < at → get_or ys k 0 ≡ get_or xs k 0) → ((k : ℕ) → at ≤ k → k < at + n → get_or ys k 0 ≡ f k) → (k : ℕ) → k < at + n → get_or ys k 0 ≡ f k
block_more f xs ys done at n within old before copied k h =
    elim (cases_lt k at) [
      | inl front ↦ before k front ∙ old k (omega arith)
      | inr block ↦ copied k block h
    ]

-- a number of less than five octets leaves room for one more
pub room_above : (n v : ℕ) → n < 5 → v < 2 ^ (8 * n) → v < 2 ^ 32
room_above zero v h l = omega (arith, l)
room_above (suc zero) v h l = omega (arith, l)
room_above (suc (suc zero)) v h l = omega (arith, l)
room_above (suc (suc (suc zero))) v h l = omega (arith, l)
room_above (suc (suc (suc (suc zero)))) v h l = omega (arith, l)
room_above (suc (suc (suc (suc (suc n))))) v h l = absurd (omega arith)

-- a number is cut out of the octets that hold it
pub cut_out : (octets : List ℕ) (start width count behind value : ℕ) → width ≤ 32 → 8 * count ≡ start + (width + behind) → value ≡ number_at octets 0 (8 * count) → value / 2 ^ behind % (1 * 2 ^ width % 2 ^ 64) ≡ number_at octets start width
cut_out octets start width count behind value w e v =
    let modulus : 1 * 2 ^ width % 2 ^ 64 ≡ 2 ^ width = one_shl width 64 (omega arith) in
    rw modulus (ap (λ (x : ℕ). x / 2 ^ behind % 2 ^ width) v ∙ sym (number_at-within octets 0 (8 * count) start width behind e) ∙ ap (λ t. number_at octets t width) (omega arith))

-- octets that begin on an octet
pub copied_even : (octets xs : List ℕ) (n start : ℕ) → start ≡ 0 → n ≤ length octets → ((k : ℕ) → get_or octets k 0 < 256) → xs ≡ take n octets → xs ≡ map (λ k. number_at octets (8 * k + start) 8) (range_with_len 0 n)
copied_even octets xs n start z h small e =
    e ∙ fill_by_all (λ k. number_at octets (8 * k + start) 8) (take n octets) n 0 (length-take-le n octets h) (λ k l.
    get_or-take n octets k 0 l ∙ sym (ap (λ t. number_at octets t 8) (omega (arith, z)) ∙ number_at-octet octets k (small k)))

-- the whole octets of a run that begins in a later octet
pub whole_octets : (octets : List ℕ) (j s t m : ℕ) → t ≡ s + 8 * j → map (λ k. number_at (drop j octets) (8 * k + s) 8) (range_with_len 0 m) ≡ map (λ k. number_at octets (8 * k + t) 8) (range_with_len 0 m)
whole_octets octets j s t m e =
    map-shift (λ k. number_at (drop j octets) (8 * k + s) 8) (λ k. number_at octets (8 * k + t) 8) 0 0 m (λ k. ap number (run-drop octets j (8 * (0 + k) + s) (8 * (0 + k) + t) 8 (omega (arith, e))))

-- a run of whole octets
pub filled_even : (octets : List ℕ) (start len m : ℕ) → len ≡ 8 * m → filled (bits_at octets start len) ≡ map (λ k. number_at octets (8 * k + start) 8) (range_with_len 0 m)
filled_even octets start len m e =
    let size : len ≡ 8 * m + 0 = omega (arith, e) in
    ap (λ n. filled (bits_at octets start n)) size ∙ filled-run octets start m 0 ∙ append-nil (map (λ k. number_at octets (8 * k + start) 8) (range_with_len 0 m))

-- a run that ends inside an octet, of which v is the number of its last r bits
pub filled_odd : (octets : List ℕ) (start len m r v : ℕ) → len ≡ 8 * m + r → 0 < r → r < 8 → v ≡ number_at octets (start + 8 * m) r → filled (bits_at octets start len) ≡ map (λ k. number_at octets (8 * k + start) 8) (range_with_len 0 m) ++ (v * 2 ^ (8 - r) % 256 ∷ [])
filled_odd octets start len m r v e low high is =
    let last = bits_at octets (start + 8 * m) r in
    let size : length last ≡ r = length-run octets (start + 8 * m) r in
    let small : v < 2 ^ r = rw is (number_at-lt octets (start + 8 * m) r) in
    let all : r + (8 - r) ≡ 8 = omega arith in
    let below : v * 2 ^ (8 - r) < 2 ^ 8 = rw (ap (λ (x : ℕ). 2 ^ x) (sym all)) (shl_below v r (8 - r) small) in
    ap (λ n. filled (bits_at octets start n)) e ∙ filled-run octets start m r
    ∙ ap (λ xs. map (λ k. number_at octets (8 * k + start) 8) (range_with_len 0 m) ++ xs)
    (filled-short last (omega (arith, size)) (omega (arith, size)) ∙ ap (λ n. number (last ++ replicate (8 - n) false) ∷ []) size
    ∙ ap (λ (x : ℕ). x ∷ []) (number-filled last (8 - r) ∙ ap (λ (x : ℕ). x * 2 ^ (8 - r)) (sym is) ∙ sym (mod-eq_of_lt below)))

-- the last of m + 1 octets is written
pub last_set : (front out : List ℕ) (m v : ℕ) → length front ≡ m → length out ≡ m + 1 → set (front ++ drop m out) m v ≡ front ++ (v ∷ [])
last_set front out m v a b =
    let rest : drop m out ≡ get_or out m 0 ∷ [] = drop_more out m 0 (omega (arith, b)) ∙ ap (λ xs. get_or out m 0 ∷ xs) (drop_all (m + 1) out (omega (arith, b))) in
    ap (λ xs. set (front ++ xs) m v) rest ∙ set_at front (get_or out m 0) [] v m a

get_or-zeros : (n i : ℕ) → get_or (replicate n zero) i zero ≡ zero
get_or-zeros n i =
    elim (cases_lt i n) [
      | inl within ↦ get_or-replicate n i 0 0 within
      | inr past ↦ get_or_past (replicate n zero) i zero (omega (arith, length-replicate n zero))
    ]

-- octets that bits fill, with zeros behind: past the bits there is no 1
pub kept_clear : (bits : List Bool) (a : List ℕ) (m n k : ℕ) → a ≡ filled bits → length bits ≤ k → bit_at (a ++ drop m (replicate n 0)) k ≡ false
kept_clear bits a m n k e h =
    let zeros : drop m (replicate n 0) ≡ replicate (n - m) 0 = drop-replicate m n 0 in
    let there : bit_at a k ≡ false = ap (λ xs. bit_at xs k) e ∙ filled-past bits k h in
    elim (cases_lt (k / 8) (length a)) [
      | inl within ↦ ap (λ (x : ℕ). nat_eq (x / 2 ^ (7 - k % 8) % 2) 1) (get_or_append_left a (drop m (replicate n 0)) 0 (k / 8) within) ∙ there
      | inr past ↦
          ap (λ (x : ℕ). nat_eq (x / 2 ^ (7 - k % 8) % 2) 1)
          (ap (λ xs. get_or (a ++ xs) (k / 8) 0) zeros ∙ get_or-append_right a (replicate (n - m) 0) (length a) (k / 8) 0 refl past ∙ get_or-zeros (n - m) (k / 8 - length a) ∙ sym (get_or_past a (k / 8) 0 past))
          ∙ there
    ]
