-- Texts as they are gathered, and as they are defined.
use Rattle.std.proofs.Common.{◌≡◌, ℕ, zero, suc, ◌+◌, ◌-◌, ◌<◌, ◌≤◌, ◌^◌, List, [], ◌∷◌, ◌++◌}
use Rattle.std.proofs.Common.{get_or, refl, sym, ap, ◌∙◌, arith, append-nil, append_assoc, flat_map}
use Rattle.std.proofs.Common.{codes, true, false}
use Rattle.std.specs.List.{join_by, range_with_len}
use Rattle.std.proofs.lemmas.List.Concat.{flat_map-append}
use Rattle.amr_bits.proofs.Filled.{filled-front}
use Rattle.amr_bits.proofs.Places.{bits-four, four}
use Rattle.amr_bits.specs.Bits.{bits_at, filled, nat}
use Rattle.listing_laws.proofs.Lines.{split_range}
use Rattle.list_engine.specs.Payloads.{quality_text}
use Rattle.std.specs.Fmt.{digits}

-- octets of four are octets
small : (v k : ℕ) → get_or (four v) k 0 < 256
small v zero = omega arith
small v (suc zero) = omega arith
small v (suc (suc zero)) = omega arith
small v (suc (suc (suc zero))) = omega arith
small v (suc (suc (suc (suc k)))) = omega arith

-- the four octets of a number are its bits
pub four_filled : (v : ℕ) → v < 2 ^ 32 → four v ≡ filled (nat 32 v)
four_filled v fits =
    let bits : bits_at (four v) 0 32 ≡ nat 32 v = bits-four v 32 fits fits (omega arith) in
    sym (ap filled (sym (append-nil (nat 32 v)) ∙ ap (λ b. b ++ []) (sym bits))
    ∙ filled-front (four v) 4 [] (omega arith) (small v))

-- a piece behind another
pub behind : (a b c x y : List ℕ) → b ≡ a ++ x → c ≡ b ++ y → c ≡ a ++ (x ++ y)
behind a b c x y first second = second ∙ ap (λ t. t ++ y) first ∙ append_assoc a x y

-- numbers in a row, and the next one
pub range_more : (a n : ℕ) → range_with_len a (n + 1) ≡ range_with_len a n ++ (a + n) ∷ []
range_more a zero = let same : a ≡ a + 0 = omega arith in ap (λ k. k ∷ []) same
range_more a (suc n) =
    let on : a + 1 + n ≡ a + suc n = omega arith in
    let more : suc n + 1 ≡ suc (n + 1) = omega arith in
    ap (range_with_len a) more ∙ ap (λ l. a ∷ l)
    (range_more (a + 1) n ∙ ap (λ k. range_with_len (a + 1) n ++ k ∷ []) on)

-- texts of numbers in a row, and that of the next one
pub texts_more : (f : ℕ → List ℕ) (a n : ℕ)
    → flat_map f (range_with_len a (n + 1)) ≡ flat_map f (range_with_len a n) ++ f (a + n)
texts_more f a n = ap (flat_map f) (range_more a n)
    ∙ flat_map-append f (range_with_len a n) ((a + n) ∷ [])
    ∙ ap (λ t. flat_map f (range_with_len a n) ++ t) (append-nil (f (a + n)))

-- joined texts, and one more behind what stands between
pub joined_more : (f : ℕ → List ℕ) (sep : List ℕ) (n : ℕ) → 1 ≤ n
    → join_by f sep (range_with_len 0 (n + 1)) ≡ join_by f sep (range_with_len 0 n) ++ (sep ++ f n)
joined_more f sep zero some = absurd (omega (arith, some))
joined_more f sep (suc n) some =
    let more : suc n + 1 ≡ suc (n + 1) = omega arith in
    let last : 1 + n ≡ suc n = omega arith in
    ap (λ m. join_by f sep (range_with_len 0 m)) more ∙ ap (λ t. f 0 ++ t)
    (texts_more (λ y. sep ++ f y) 1 n)
    ∙ sym (append_assoc (f 0) (flat_map (λ y. sep ++ f y) (range_with_len 1 n)) (sep ++ f (1 + n)))
    ∙ ap (λ m. join_by f sep (range_with_len 0 (suc n)) ++ (sep ++ f m)) last

-- the same, of numbers from 0 on
pub texts_next : (f : ℕ → List ℕ) (n : ℕ)
    → flat_map f (range_with_len 0 (n + 1)) ≡ flat_map f (range_with_len 0 n) ++ f n
texts_next f n = let last : 0 + n ≡ n = omega arith in
    texts_more f 0 n ∙ ap (λ m. flat_map f (range_with_len 0 n) ++ f m) last

-- the texts of the first numbers, and those behind
pub texts_split : (f : ℕ → List ℕ) (k n : ℕ) → k ≤ n
    → flat_map f (range_with_len 0 n)
    ≡ flat_map f (range_with_len 0 k) ++ flat_map f (range_with_len (0 + k) (n - k))
texts_split f k n inside = let whole : k + (n - k) ≡ n = omega (arith, inside) in
    sym (ap (λ m. flat_map f (range_with_len 0 m)) whole)
    ∙ ap (flat_map f) (split_range 0 k (n - k))
    ∙ flat_map-append f (range_with_len 0 k) (range_with_len (0 + k) (n - k))

-- pieces taken together
pub regroup : (a b c d : List ℕ) → ((a ++ b) ++ c) ++ d ≡ a ++ ((b ++ c) ++ d)
regroup a b c d = ap (λ t. t ++ d) (append_assoc a b c) ∙ append_assoc a (b ++ c) d

-- the quality bit, and the text of a number that is one digit
pub one_said : quality_text true ≡ codes "/1"
unfolding digits
one_said = refl

pub zero_said : quality_text false ≡ codes "/0"
unfolding digits
zero_said = refl
