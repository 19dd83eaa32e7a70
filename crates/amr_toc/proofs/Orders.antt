-- Where an octet stands in the plain order (RFC 4867, 4.4.3).
use Rattle.std.proofs.Common.{◌≡◌, ℕ, zero, suc, ◌+◌, ◌<◌, ◌≤◌, Bool, true, false, cond, not, eqb, List, ◌++◌, length, map, get_or, take, sum, refl, ap, ◌∙◌, arith, inl, inr}
use Rattle.std.specs.Prelude.{◌&&◌, flat_map}
use Rattle.std.specs.List.{range_with_len, position_or_len}
use Rattle.std.proofs.lemmas.Bool.{cases_eq, eq-eqb, ne_eqb}
use Rattle.spec_payload.specs.Reading.{is_place}
use Rattle.spec_payload.specs.RobustOrder.{Place, place, plain_order}
use Rattle.amr_bits.proofs.Lists.{sum-more}
use Rattle.payload_laws.proofs.Orders.{fails_first, fails_second}

-- where both hold
both_hold : (a b : Bool) → a ≡ true → b ≡ true → (a && b) ≡ true
both_hold a b e f = rw (e, f) refl

-- the octets of frame f from octet b on
abbrev row : ℕ → ℕ → ℕ → List Place
row f b n = map (λ (o : ℕ). place o f) (range_with_len b n)

-- those of another frame are passed over
passed : (o k f b n : ℕ) (rest : List Place) → (f ≡ k → ⊥) → position_or_len (is_place o k) (row f b n ++ rest) ≡ n + position_or_len (is_place o k) rest
passed o k f b zero rest ne = omega arith
passed o k f b (suc n) rest ne =
    let e : is_place o k (place b f) ≡ false = fails_second (eqb b o) (eqb f k) (ne_eqb f k ne) in
    let r = passed o k f (b + 1) n rest ne in
    ap (λ t. cond (not t) (1 + position_or_len (is_place o k) (row f (b + 1) n ++ rest)) 0) e ∙ omega arith

-- an octet of the frame is found
met : (o k b n : ℕ) (rest : List Place) → b ≤ o → o < b + n → b + position_or_len (is_place o k) (row k b n ++ rest) ≡ o
met o k b zero rest l h = absurd (omega arith)
met o k b (suc n) rest l h = elim (cases_eq b o) [
  | inl t ↦ let e : is_place o k (place b k) ≡ true = both_hold (eqb b o) (eqb k k) (eq-eqb b o t) (eq-eqb k k refl) in
      ap (λ s. b + cond (not s) (1 + position_or_len (is_place o k) (row k (b + 1) n ++ rest)) 0) e ∙ omega arith
  | inr ne ↦ let e : is_place o k (place b k) ≡ false = fails_first (eqb b o) (eqb k k) (ne_eqb b o ne) in
      let r = met o k (b + 1) n rest (omega (arith, ne)) (omega arith) in
      ap (λ s. b + cond (not s) (1 + position_or_len (is_place o k) (row k (b + 1) n ++ rest)) 0) e ∙ omega arith
]

-- the octets of n frames from frame a on, and how many they are
abbrev rows : (ℕ → ℕ) → ℕ → ℕ → List Place
rows size a n = flat_map (λ (f : ℕ). row f 0 (size f)) (range_with_len a n)

abbrev sizes : (ℕ → ℕ) → ℕ → ℕ → ℕ
sizes size a zero = 0
sizes size a (suc n) = size a + sizes size (a + 1) n

-- where an octet of one of them stands
in_rows : (size : ℕ → ℕ) (o k a n d : ℕ) → d < n → a + d ≡ k → o < size k → position_or_len (is_place o k) (rows size a n) ≡ sizes size a d + o
in_rows size o k a zero d l e h = absurd (omega arith)
in_rows size o k a (suc n) zero l e h =
    let same : a ≡ k = omega arith in
    let m = met o k 0 (size k) (rows size (a + 1) n) (omega arith) (omega arith) in
    ap (λ f. position_or_len (is_place o k) (row f 0 (size f) ++ rows size (a + 1) n)) same ∙ omega arith
in_rows size o k a (suc n) (suc d) l e h =
    let r = in_rows size o k (a + 1) n d (omega arith) (omega arith) h in
    passed o k a 0 (size a) (rows size (a + 1) n) (λ s. omega arith) ∙ omega arith

-- a frame more
sizes-more : (size : ℕ → ℕ) (a n b : ℕ) → a + n ≡ b → sizes size a (suc n) ≡ sizes size a n + size b
sizes-more size a zero b e = let s : size a ≡ size b = ap size (omega arith) in omega arith
sizes-more size a (suc n) b e = let r = sizes-more size (a + 1) n b (omega arith) in omega arith

sizes_are : (ls : List ℕ) (k : ℕ) → k ≤ length ls → sizes (λ (f : ℕ). get_or ls f 0) 0 k ≡ sum (take k ls)
sizes_are ls zero h = refl
sizes_are ls (suc k) h =
    let r = sizes_are ls k (omega arith) in
    let m = sum-more ls k (omega arith) in
    sizes-more (λ (f : ℕ). get_or ls f 0) 0 k k (omega arith) ∙ omega arith

-- behind the octets of the frames before its own
pub plain_stands : (ls : List ℕ) (o k : ℕ) → k < length ls → o < get_or ls k 0 → position_or_len (is_place o k) (plain_order ls) ≡ sum (take k ls) + o
plain_stands ls o k h l =
    in_rows (λ (f : ℕ). get_or ls f 0) o k 0 (length ls) k h (omega arith) l ∙ ap (λ n. n + o) (sizes_are ls k (omega arith))
