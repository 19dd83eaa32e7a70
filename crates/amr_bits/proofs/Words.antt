-- Words of eight octets.
use Rattle.std.proofs.Common.{◌≡◌, ℕ, zero, suc, ◌+◌, ◌-◌, ◌*◌, ◌/◌, ◌%◌, ◌^◌, ◌<◌, List, [], ◌∷◌, ◌++◌, map, get_or, sym, refl, ap, ◌∙◌, arith, inl, inr, w64}
use Rattle.std.specs.List.{range_with_len}
use Rattle.std.specs.Int.{from_be_bytes, to_be_bytes}
use Rattle.std.proofs.lemmas.Nat.{be_bytes_8}
use Rattle.std.proofs.lemmas.List.FromFn.{get_or-map-range_with_len}
use Rattle.std.proofs.lemmas.List.{get_or_append_left, get_or-append_right}
use Rattle.std.proofs.lemmas.Bool.{cases_lt}
use Rattle.std.proofs.Math.Nat.{zero-add}
use Rattle.amr_bits.specs.Bits.{number, number_at, bits_at}
use Rattle.amr_bits.proofs.Numbers.{number-append}
use Rattle.amr_bits.proofs.Runs.{run-split}
use Rattle.amr_bits.proofs.Places.{number_at-lt, number_at-within, number_at-more, number_at-octet}

-- eight bits more
bits_more : (octets : List ℕ) (t n : ℕ) → number_at octets t (n + 8) ≡ 256 * number_at octets t n + number_at octets (t + n) 8
bits_more octets t n =
    ap number (run-split octets t n 8 (t + n) refl) ∙ number-append (bits_at octets t n) (bits_at octets (t + n) 8) ∙ omega arith

worth : (a b c d e f g h n2 n3 n4 n5 n6 n7 n8 : ℕ) → n2 ≡ 256 * a + b → n3 ≡ 256 * n2 + c → n4 ≡ 256 * n3 + d → n5 ≡ 256 * n4 + e → n6 ≡ 256 * n5 + f → n7 ≡ 256 * n6 + g → n8 ≡ 256 * n7 + h
    → n8 ≡ from_be_bytes w64 (a ∷ b ∷ c ∷ d ∷ e ∷ f ∷ g ∷ h ∷ [])
worth a b c d e f g h n2 n3 n4 n5 n6 n7 n8 e2 e3 e4 e5 e6 e7 e8 = omega (arith, e2, e3, e4, e5, e6, e7, e8)

-- the number of eight octets
pub word_read : (octets : List ℕ) (at n : ℕ) → ((k : ℕ) → get_or octets k 0 < 256)
    → n ≡ from_be_bytes w64 (get_or octets at 0 ∷ get_or octets (at + 1) 0 ∷ get_or octets (at + 2) 0 ∷ get_or octets (at + 3) 0 ∷ get_or octets (at + 4) 0 ∷ get_or octets (at + 5) 0 ∷ get_or octets (at + 6) 0 ∷ get_or octets (at + 7) 0 ∷ [])
    → n ≡ number_at octets (8 * at) 64
word_read octets at n small e =
    let t = 8 * at in
    let one : number_at octets t 8 ≡ get_or octets at 0 = number_at-octet octets at (small at) in
    let two : number_at octets t 16 ≡ 256 * get_or octets at 0 + get_or octets (at + 1) 0 =
    number_at-more octets t 8 (at + 1) (omega arith) (small (at + 1)) ∙ ap (λ (x : ℕ). 256 * x + get_or octets (at + 1) 0) one in
    e ∙ sym (worth _ _ _ _ _ _ _ _ (number_at octets t 16) (number_at octets t 24) (number_at octets t 32) (number_at octets t 40) (number_at octets t 48) (number_at octets t 56) (number_at octets t 64) two
    (number_at-more octets t 16 (at + 2) (omega arith) (small (at + 2))) (number_at-more octets t 24 (at + 3) (omega arith) (small (at + 3))) (number_at-more octets t 32 (at + 4) (omega arith) (small (at + 4)))
    (number_at-more octets t 40 (at + 5) (omega arith) (small (at + 5))) (number_at-more octets t 48 (at + 6) (omega arith) (small (at + 6))) (number_at-more octets t 56 (at + 7) (omega arith) (small (at + 7))))

-- the shift that brings the first seven of them to their places
word_shift : (s a : ℕ) → 0 < s → s < 8 → a * 2 ^ s % 2 ^ 64 / 256 ≡ a / 2 ^ (8 - s) % 2 ^ 56
word_shift zero a l h = absurd (omega arith)
word_shift (suc zero) a l h = omega arith
word_shift (suc (suc zero)) a l h = omega arith
word_shift (suc (suc (suc zero))) a l h = omega arith
word_shift (suc (suc (suc (suc zero)))) a l h = omega arith
word_shift (suc (suc (suc (suc (suc zero))))) a l h = omega arith
word_shift (suc (suc (suc (suc (suc (suc zero)))))) a l h = omega arith
word_shift (suc (suc (suc (suc (suc (suc (suc zero))))))) a l h = omega arith
word_shift (suc (suc (suc (suc (suc (suc (suc (suc n)))))))) a l h = absurd (omega arith)

-- the numbers of seven octets from a bit on, and an octet
abbrev pub seven_at : List ℕ → ℕ → ℕ → List ℕ
seven_at octets t v = map (λ k. number_at octets (t + 8 * k) 8) (range_with_len 0 7) ++ (v ∷ [])

seven_each : (octets : List ℕ) (t v i : ℕ) → i < 7 → get_or (seven_at octets t v) i 0 ≡ number_at octets (t + 8 * i) 8
seven_each octets t v i h =
    get_or_append_left (map (λ k. number_at octets (t + 8 * k) 8) (range_with_len 0 7)) (v ∷ []) 0 i h
    ∙ get_or-map-range_with_len (λ k. number_at octets (t + 8 * k) 8) 0 7 i i 0 h (zero-add i)

one_small : (v i : ℕ) → v < 256 → get_or (v ∷ []) i 0 < 256
one_small v zero h = h
one_small v (suc i) h = omega arith

seven_small : (octets : List ℕ) (t v : ℕ) → v < 256 → (i : ℕ) → get_or (seven_at octets t v) i 0 < 256
seven_small octets t v h i =
    elim (cases_lt i 7) [
      | inl within ↦ rw (seven_each octets t v i within) (number_at-lt octets (t + 8 * i) 8)
      | inr past ↦
          rw (get_or-append_right (map (λ k. number_at octets (t + 8 * k) 8) (range_with_len 0 7)) (v ∷ []) 7 i 0 refl past) (one_small v (i - 7) h)
    ]

seven_worth : (octets : List ℕ) (t v : ℕ) → 256 * number_at octets t 56 + v ≡ from_be_bytes w64 (seven_at octets t v)
seven_worth octets t v =
    let first : number_at octets (t + 8 * 0) 8 ≡ number_at octets t 8 = ap (λ p. number_at octets p 8) (omega arith) in
    worth _ _ _ _ _ _ _ v (number_at octets t 16) (number_at octets t 24) (number_at octets t 32) (number_at octets t 40) (number_at octets t 48) (number_at octets t 56) (256 * number_at octets t 56 + v)
    (bits_more octets t 8 ∙ ap (λ (x : ℕ). 256 * x + number_at octets (t + 8) 8) (sym first))
    (bits_more octets t 16) (bits_more octets t 24) (bits_more octets t 32) (bits_more octets t 40) (bits_more octets t 48) refl

-- the first seven octets of a number that was shifted so
pub word_octets : (octets : List ℕ) (at s n k : ℕ) → 0 < s → s < 8 → n ≡ number_at octets (8 * at) 64 → k < 7
    → get_or (to_be_bytes w64 (n * 2 ^ s % 2 ^ 64)) k 0 ≡ number_at octets (8 * (at + k) + s) 8
word_octets octets at s n k low high e h =
    let t = 8 * at + s in
    let m = n * 2 ^ s % 2 ^ 64 in
    let front : m / 256 ≡ number_at octets t 56 =
    word_shift s n low high ∙ ap (λ (x : ℕ). x / 2 ^ (8 - s) % 2 ^ 56) e ∙ sym (number_at-within octets (8 * at) 64 s 56 (8 - s) (omega arith)) in
    let whole : m ≡ 256 * number_at octets t 56 + m % 256 = omega (arith, front) in
    ap (λ xs. get_or xs k 0) (be_bytes_8 (seven_at octets t (m % 256)) m refl (seven_small octets t (m % 256) (omega arith)) (whole ∙ seven_worth octets t (m % 256)))
    ∙ seven_each octets t (m % 256) k h ∙ ap (λ p. number_at octets p 8) (omega arith)
