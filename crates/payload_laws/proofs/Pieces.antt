-- Pieces of a layout that stand behind one another in the bits of octets.
use Rattle.std.proofs.Common.{◌≡◌, ℕ, zero, suc, ◌+◌, ◌-◌, ◌*◌, ◌<◌, Bool, true, false, List, [], ◌∷◌, ◌++◌, length, map, drop, get_or, sym, refl, ap, ◌∙◌, subst, arith, None, Some, inl, inr}
use Rattle.std.specs.List.{flat_map, range_with_len}
use Rattle.std.proofs.lemmas.Bool.{cases_lt}
use Rattle.std.proofs.lemmas.List.{length-append, length-map, length-take, length-drop, get_or-map, get_or-take, get_or-drop, get_or_append_left, get_or-append-add}
use Rattle.amr_bits.specs.Bits.{bits_of, bit_at, bits_at, part, octets_for}
use Rattle.amr_bits.specs.Layout.{Mark, fixed, free, padded, fits, allows}
use Rattle.amr_bits.proofs.Runs.{length-run, run-all, run-octet, run-split}
use Rattle.payload_laws.proofs.Marks.{front_bit, same_bit_is, fits_length, length-bits_of}

-- the bits of octets from a place on have a layout
abbrev pub Stands : List ℕ → ℕ → List Mark → Type 0
Stands octets s marks = fits marks (bits_at octets s (length marks)) ≡ true

-- at an equal place
pub stands_at : (octets : List ℕ) (marks : List Mark) (s t : ℕ) → s ≡ t → Stands octets s marks
    → Stands octets t marks
stands_at octets marks s t e h = subst (λ z. Stands octets z marks) e h

-- two layouts with the bits of each
fits_join : (a b : List Mark) (x y : List Bool) → fits a x ≡ true → fits b y ≡ true
    → fits (a ++ b) (x ++ y) ≡ true
fits_join [] b [] y e f = f
fits_join [] b (c ∷ x) y e f = absurd cc
fits_join (m ∷ a) b [] y e f = absurd cc
fits_join (m ∷ a) b (c ∷ x) y e f = let p = front_bit m a c x e in rw p.0 (fits_join a b x y p.1 f)

-- two layouts behind one another, put together and taken apart
pub both_stand : (octets : List ℕ) (a b : List Mark) (s t : ℕ) → t ≡ s + length a
    → Stands octets s a → Stands octets t b → Stands octets s (a ++ b)
both_stand octets a b s t e f g =
    ap (fits (a ++ b)) (ap (bits_at octets s) (length-append a b) ∙ run-split octets s (length a) (length b) t e)
    ∙ fits_join a b (bits_at octets s (length a)) (bits_at octets t (length b)) f g

pub parts_stand : (octets : List ℕ) (a b : List Mark) (s : ℕ) → Stands octets s (a ++ b)
    → Stands octets s a × Stands octets (s + length a) b
parts_stand octets [] b s h = (refl, stands_at octets b s (s + 0) (omega arith) h)
parts_stand octets (m ∷ a) b s h =
    let p = front_bit m (a ++ b) (bit_at octets s) (bits_at octets (s + 1) (length (a ++ b))) h in
    let r = parts_stand octets a b (s + 1) p.1 in
    (rw p.0 r.0, stands_at octets b (s + 1 + length a) (s + suc (length a)) (omega arith) r.1)

-- all bits of octets have a layout that stands at their front and is as long
pub whole_stands : (octets : List ℕ) (marks : List Mark) → fits marks (bits_of octets) ≡ true
    → Stands octets 0 marks × (length marks ≡ 8 * length octets)
whole_stands octets marks h =
    let long : length marks ≡ 8 * length octets = sym (fits_length marks (bits_of octets) h) ∙ length-bits_of octets in
    (ap (λ n. fits marks (bits_at octets 0 n)) long ∙ ap (fits marks) (run-all octets) ∙ h, long)

pub fits_whole : (octets : List ℕ) (marks : List Mark) → length marks ≡ 8 * length octets
    → Stands octets 0 marks → fits marks (bits_of octets) ≡ true
fits_whole octets marks long h = ap (fits marks) (sym (run-all octets)) ∙ ap (λ n. fits marks (bits_at octets 0 n)) (sym long) ∙ h

-- bits have the layout that fixes them
fits_self : (a : List Bool) → fits (fixed a) a ≡ true
fits_self [] = refl
fits_self (true ∷ a) = fits_self a
fits_self (false ∷ a) = fits_self a

-- fixed bits stand where the octets have them, and nowhere else
pub fixed_stands : (octets : List ℕ) (a : List Bool) (s n : ℕ) → a ≡ bits_at octets s n
    → Stands octets s (fixed a)
fixed_stands octets a s n e =
    let size : length (fixed a) ≡ n = length-map a Some ∙ ap length e ∙ length-run octets s n in
    ap (λ z. fits (fixed a) (bits_at octets s z)) size ∙ ap (fits (fixed a)) (sym e) ∙ fits_self a

pub fixed_is : (octets : List ℕ) (a : List Bool) (s : ℕ) → Stands octets s (fixed a)
    → bits_at octets s (length a) ≡ a
fixed_is octets [] s h = refl
fixed_is octets (x ∷ a) s h =
    let p = front_bit (Some x) (fixed a) (bit_at octets s) (bits_at octets (s + 1) (length (fixed a))) h in
    let e : x ≡ bit_at octets s = same_bit_is x (bit_at octets s) p.0 in
    λ i. sym e i ∷ fixed_is octets a (s + 1) p.1 i

-- free places stand anywhere
pub free_stands : (octets : List ℕ) (k s : ℕ) → Stands octets s (free k)
free_stands octets zero s = refl
free_stands octets (suc k) s = free_stands octets k (s + 1)

pub length-free : (k : ℕ) → length (free k) ≡ k
length-free zero = refl
length-free (suc k) = ap suc (length-free k)

-- a layout with free places up to a whole octet has as many places as its octets have bits
pub length-padded : (marks : List Mark) → length (padded marks) ≡ 8 * octets_for (length marks)
length-padded marks =
    let n = length marks in
    let k = 8 * octets_for n - n in
    let l = length-free k in
    length-append marks (free k) ∙ omega arith

-- a layout stands where each bit may stand at its place
stands_by : (octets : List ℕ) (marks : List Mark) (s : ℕ)
    → ((i : ℕ) → i < length marks → allows (get_or marks i None) (bit_at octets (s + i)) ≡ true)
    → Stands octets s marks
stands_by octets [] s h = refl
stands_by octets (m ∷ marks) s h =
    let z : s ≡ s + 0 = omega arith in
    let one : allows m (bit_at octets s) ≡ true = ap (λ t. allows m (bit_at octets t)) z ∙ h 0 (omega arith) in
    let next : (i : ℕ) → s + 1 + i ≡ s + suc i = λ i. omega arith in
    rw one (stands_by octets marks (s + 1) (λ i x. ap (λ t. allows (get_or marks i None) (bit_at octets t)) (next i) ∙ h (suc i) (omega arith)))

-- pieces of eight places each
pub pieces_stand : {X : Type 0} (octets : List ℕ) (F : X → List Mark) (ps : List X) (d : X) (s : ℕ)
    → ((i : ℕ) → i < length ps → length (F (get_or ps i d)) ≡ 8) → ((i : ℕ) → i < length ps → Stands octets (s + 8 * i) (F (get_or ps i d)))
    → Stands octets s (flat_map F ps)
pieces_stand octets F [] d s l h = refl
pieces_stand octets F (x ∷ ps) d s l h =
    let eight : length (F x) ≡ 8 = l 0 (omega arith) in
    let one : Stands octets s (F x) = stands_at octets (F x) (s + 8 * 0) s (omega arith) (h 0 (omega arith)) in
    let rest = pieces_stand octets F ps d (s + 8) (λ i x. l (suc i) (omega arith))
    (λ i x. stands_at octets (F (get_or ps i d)) (s + 8 * suc i) (s + 8 + 8 * i) (omega arith) (h (suc i) (omega arith))) in
    both_stand octets (F x) (flat_map F ps) s (s + 8) (omega arith) one rest

pub pieces_long : {X : Type 0} (F : X → List Mark) (ps : List X) (d : X)
    → ((i : ℕ) → i < length ps → length (F (get_or ps i d)) ≡ 8)
    → length (flat_map F ps) ≡ 8 * length ps
pieces_long F [] d h = refl
pieces_long F (x ∷ ps) d h =
    let one : length (F x) ≡ 8 = h 0 (omega arith) in
    let rest = pieces_long F ps d (λ i l. h (suc i) (omega arith)) in
    length-append (F x) (flat_map F ps) ∙ omega arith

-- the bits of some octets that stand behind one another
pub octets_bits : (octets : List ℕ) (c a n : ℕ)
    → bits_of (map (λ k. get_or octets (c + k) 0) (range_with_len a n)) ≡ bits_at octets (8 * (c + a)) (8 * n)
octets_bits octets c a zero = refl
octets_bits octets c a (suc n) =
    let all : 8 * suc n ≡ 8 + 8 * n = omega arith in
    let one = run-octet octets (c + a) in
    let rest = octets_bits octets c (a + 1) n in
    (λ i. sym one i ++ rest i) ∙ sym (ap (bits_at octets (8 * (c + a))) all ∙ run-split octets (8 * (c + a)) 8 (8 * n) (8 * (c + (a + 1))) (omega arith))

-- how many places an octet of bits has
pub part_long : (a : List Bool) (o : ℕ) → o < octets_for (length a)
    → length (part (8 * o) 8 (padded (fixed a))) ≡ 8
part_long a o h =
    let m = padded (fixed a) in
    let l = length-map a Some in
    let all = length-padded (fixed a) in
    length-take 8 (drop (8 * o) m) ∙ omega (arith, length-drop (8 * o) m)

-- any bit may stand at a place that is free or none
allows_free : (k i : ℕ) (b : Bool) → allows (get_or (free k) i None) b ≡ true
allows_free zero i b = refl
allows_free (suc k) zero b = refl
allows_free (suc k) (suc i) b = allows_free k i b

-- a bit may stand where it is fixed
allows_self : (a b : Bool) → a ≡ b → allows (Some a) b ≡ true
allows_self true true e = refl
allows_self true false e = absurd cc
allows_self false true e = absurd cc
allows_self false false e = refl

-- which bit may stand in an octet of bits
mark_allows : (a : List Bool) (o r : ℕ) (b : Bool) → r < 8
    → (8 * o + r < length a → get_or a (8 * o + r) false ≡ b)
    → allows (get_or (part (8 * o) 8 (padded (fixed a))) r None) b ≡ true
mark_allows a o r b l h =
    let m = padded (fixed a) in
    let len = length-map a Some in
    let k = 8 * octets_for (length (fixed a)) - length (fixed a) in
    let i = 8 * o + r in
    let at : get_or (part (8 * o) 8 m) r None ≡ get_or m i None = get_or-take 8 (drop (8 * o) m) r None l ∙ get_or-drop (8 * o) m r None in
    ap (λ x. allows x b) at ∙ elim (cases_lt i (length a)) [
      | inl t ↦ ap (λ x. allows x b) (get_or_append_left (fixed a) (free k) None i (omega arith) ∙ get_or-map Some a i false None t) ∙ allows_self (get_or a i false) b (h t)
      | inr t ↦
          let j = i - length (fixed a) in
          let e : i ≡ length (fixed a) + j = omega (arith, t) in
          ap (λ x. allows x b) (ap (λ x. get_or m x None) e ∙ get_or-append-add (fixed a) (free k) j None) ∙ allows_free k j b
    ]

-- an octet of bits stands where its bits do
pub octet_stands : (octets : List ℕ) (a : List Bool) (o s : ℕ) → o < octets_for (length a)
    → ((r : ℕ) → r < 8 → 8 * o + r < length a → get_or a (8 * o + r) false ≡ bit_at octets (s + r)) → Stands octets s (part (8 * o) 8 (padded (fixed a)))
octet_stands octets a o s h f =
    let l = part_long a o h in
    stands_by octets (part (8 * o) 8 (padded (fixed a))) s (λ r x. mark_allows a o r (bit_at octets (s + r)) (omega arith) (λ y. f r (omega arith) y))
