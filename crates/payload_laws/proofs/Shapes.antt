-- Layouts of the same shape, and the bits that stand in octets filled with free bits.
use Rattle.std.proofs.Common.{◌≡◌, ℕ, ◌+◌, ◌-◌, ◌*◌, ◌/◌, ◌%◌, ◌<◌, Bool, true, false, List, [], ◌∷◌, ◌++◌, length, map, take, drop, get_or, sym, refl, ap, ◌∙◌, subst, arith, Some, None, append_assoc}
use Rattle.std.specs.Prelude.{is_some}
use Rattle.std.specs.List.{flat_map, AllByRecursion}
use Rattle.std.proofs.lemmas.List.{length-map, map-append, get_or-map, get_or-take, get_or-drop, get_or_append_left, take-map, drop-map, ext_get_or}
use Rattle.amr_bits.specs.Bits.{part, octets_for}
use Rattle.amr_bits.specs.Layout.{Mark, fixed, free, padded, fits, allows}
use Rattle.payload_laws.proofs.Marks.{Both, front_bit, same_bit_is}

-- which places of a layout are fixed
abbrev pub shape : List Mark → List Bool
shape marks = map is_some marks

-- a fixed place that a bit may stand at tells the bit
one_mark : (x y : Mark) (c : Bool) → is_some x ≡ is_some y → allows x c ≡ true → allows y c ≡ true → x ≡ y
one_mark None None c e f g = refl
one_mark None (Some b) c e f g = absurd cc
one_mark (Some a) None c e f g = absurd cc
one_mark (Some a) (Some b) c e f g = ap Some (same_bit_is a c f ∙ sym (same_bit_is b c g))

-- two layouts that begin with the same shape
alike_in : (a b m n : List Mark) (bits : List Bool) → shape a ≡ shape b → fits (a ++ m) bits ≡ true → fits (b ++ n) bits ≡ true → (a ≡ b) × Both m n
alike_in [] [] m n bits s e f = (refl, record { bits = bits; one = e; two = f })
alike_in [] (y ∷ b) m n bits s e f = absurd cc
alike_in (x ∷ a) [] m n bits s e f = absurd cc
alike_in (x ∷ a) (y ∷ b) m n [] s e f = absurd cc
alike_in (x ∷ a) (y ∷ b) m n (c ∷ bits) s e f =
    let p = front_bit x (a ++ m) c bits e in
    let q = front_bit y (b ++ n) c bits f in
    let h : is_some x ≡ is_some y = cc in
    let t : shape a ≡ shape b = cc in
    let r = alike_in a b m n bits t p.1 q.1 in
    let z = one_mark x y c h p.0 q.0 in
    (λ i. z i ∷ r.0 i, r.1)

-- the same of any bits that have both layouts
both_alike : (a b m n : List Mark) → shape a ≡ shape b → Both (a ++ m) (b ++ n) → (a ≡ b) × Both m n
both_alike a b m n s h = alike_in a b m n h.bits s h.one h.two

-- pieces of the same shapes that the same bits have are equal
pub both_pieces : {X : Type 0} (F G : X → List Mark) (xs : List X) (m n : List Mark) → ((x : X) → shape (F x) ≡ shape (G x)) → Both (flat_map F xs ++ m) (flat_map G xs ++ n) → AllByRecursion (λ x. F x ≡ G x) xs
both_pieces F G [] m n s h = tt
both_pieces F G (x ∷ xs) m n s h =
    let left = flat_map F xs ++ m in
    let right = flat_map G xs ++ n in
    let h1 : Both (F x ++ left) (G x ++ right) = subst (λ r. Both r (G x ++ right)) (append_assoc (F x) (flat_map F xs) m) (subst (λ r. Both (flat_map F (x ∷ xs) ++ m) r) (append_assoc (G x) (flat_map G xs) n) h) in
    let r = both_alike (F x) (G x) left right (s x) h1 in
    (r.0, both_pieces F G xs m n s r.1)

-- as many fixed bits have the same shape
shape_fixed : (a b : List Bool) → length a ≡ length b → shape (fixed a) ≡ shape (fixed b)
shape_fixed [] [] l = refl
shape_fixed [] (y ∷ b) l = absurd (omega arith)
shape_fixed (x ∷ a) [] l = absurd (omega arith)
shape_fixed (x ∷ a) (y ∷ b) l = ap {B = List Bool} (λ t. true ∷ t) (shape_fixed a b (omega arith))

-- how many free bits stand behind bits up to a whole octet
abbrev behind : ℕ → ℕ
behind n = 8 * octets_for n - n

-- the same with free bits up to a whole octet
shape_padded : (a b : List Bool) → length a ≡ length b → shape (padded (fixed a)) ≡ shape (padded (fixed b))
shape_padded a b l =
    let len : length (fixed a) ≡ length (fixed b) = length-map a Some ∙ l ∙ sym (length-map b Some) in
    map-append is_some (fixed a) (free (behind (length (fixed a))))
    ∙ ap (λ t. t ++ shape (free (behind (length (fixed a))))) (shape_fixed a b l)
    ∙ ap (λ z. shape (fixed b) ++ shape (free (behind z))) len
    ∙ sym (map-append is_some (fixed b) (free (behind (length (fixed b)))))

-- the same for one octet of each
pub shape_part : (s : ℕ) (a b : List Bool) → length a ≡ length b → shape (part s 8 (padded (fixed a))) ≡ shape (part s 8 (padded (fixed b)))
shape_part s a b l =
    let m = padded (fixed a) in
    let n = padded (fixed b) in
    sym (take-map is_some 8 (drop s m))
    ∙ ap (take 8) (sym (drop-map is_some s m) ∙ ap (drop s) (shape_padded a b l) ∙ drop-map is_some s n)
    ∙ take-map is_some 8 (drop s n)

-- a bit in its octet
bit_in_octet : (a : List Bool) (i : ℕ) → i < length a → get_or (part (8 * (i / 8)) 8 (padded (fixed a))) (i % 8) None ≡ Some (get_or a i false)
bit_in_octet a i lt =
    let m = padded (fixed a) in
    let at : 8 * (i / 8) + i % 8 ≡ i = omega arith in
    let len = length-map a Some in
    get_or-take 8 (drop (8 * (i / 8)) m) (i % 8) None (omega arith)
    ∙ get_or-drop (8 * (i / 8)) m (i % 8) None
    ∙ ap (λ z. get_or m z None) at
    ∙ get_or_append_left (fixed a) (free (behind (length (fixed a)))) None i (omega arith)
    ∙ get_or-map Some a i false None lt

-- equal fixed bits
some_is : (a b : Bool) → Some a ≡ Some b → a ≡ b
some_is a b e = cc

-- bits whose octets are equal are equal
pub bits_from_octets : (a b : List Bool) → length a ≡ length b → ((o : ℕ) → o < octets_for (length a) → part (8 * o) 8 (padded (fixed a)) ≡ part (8 * o) 8 (padded (fixed b))) → a ≡ b
bits_from_octets a b l h =
    ext_get_or false a b l (λ i lt. some_is (get_or a i false) (get_or b i false) (sym (bit_in_octet a i lt) ∙ ap (λ t. get_or t (i % 8) None) (h (i / 8) (omega arith)) ∙ bit_in_octet b i (omega arith)))
