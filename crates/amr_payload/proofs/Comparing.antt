-- Octets that are compared, one part behind the other.
use Rattle.std.proofs.Common.{◌≡◌, ℕ, zero, suc, ◌+◌, ◌-◌, ◌*◌, ◌/◌, ◌%◌, ◌^◌, ◌<◌, ◌≤◌, min, Bool, true, false, cond, not, ltb, nat_eq, List, [], ◌∷◌, ◌++◌, length, map, take, drop, get_or, sym, refl, ap, subst, ◌∙◌, arith, Option, Some, None}
use Rattle.std.specs.Prelude.{flat_map, find, is_none, ◌&&◌, Result, Ok, Err}
use Rattle.std.specs.List.{range_with_len}
use Rattle.std.proofs.lemmas.Bool.{ltb-true, ltb-false, eq-eqb}
use Rattle.std.proofs.lemmas.List.{append_assoc, append-nil, at_drop_more, length-drop}
use Rattle.amr_frame.specs.Frames.{Frame, no_data}
use Rattle.amr_bits.proofs.Filled.{length-filled}
use Rattle.amr_bits.specs.Bits.{bit_at, bits_at, filled, octets_for}
use Rattle.amr_frame.specs.Profiles.{group_bound}
use Rattle.amr_frame.specs.declared.profile.Profile.{Profile}
use Rattle.amr_oa.proofs.Pieces.{range_from}
use Rattle.amr_oa.specs.Written.{check_part, frame_part, longest_of, octet_part, row_part, sorted_part}
use Rattle.amr_payload.specs.Octets.{entry_octet, interleaving_part, table_part}
use Rattle.amr_payload.specs.Comparing.{Compares, Has, Differs, differs_from, part_of, piece_of}
use Rattle.amr_payload.specs.declared.compare.Part.{Part}
use Rattle.amr_payload.specs.declared.compare.Part.TheVariants.{Table, Checks, Frames, Row}
use Rattle.amr_toc.proofs.Filling.{octet_is}
use Rattle.spec_payload.specs.Values.{Value, FitsGroup}
use Rattle.spec_payload.specs.Strict.{differs_at, first_difference}

pub ltb_is : (a b : ℕ) → a < b → ltb a b ≡ true
ltb_is a b l = grind (arith, l)

-- of a text `all`, compared from `start` on, octets have what stands before `at`, and `rest` is still to be compared
pub record Went (octets : List ℕ) (start : ℕ) (all : List ℕ) (at : ℕ) (rest : List ℕ) : Type 0 where
  pub goes : (behind : List ℕ) → differs_from octets start (all ++ behind) ≡ differs_from octets at (rest ++ behind)

-- before the first part
pub went_first : (octets : List ℕ) (start : ℕ) (all : List ℕ) → Went octets start all start all
went_first octets start all = record { goes = λ behind. refl }

-- a part more
pub went_step : (octets : List ℕ) (start : ℕ) (all : List ℕ) (at : ℕ) (piece rest from : List ℕ) (end : ℕ) → from ≡ piece ++ rest
    → Went octets start all at from → Has octets at piece end → Went octets start all end rest
went_step octets start all at piece rest from end f w h = record {
  goes = λ behind. w.goes behind ∙ ap (λ (xs : List ℕ). differs_from octets at (xs ++ behind)) f
      ∙ ap (differs_from octets at) (append_assoc piece rest behind) ∙ h.passes (rest ++ behind);
}

-- a part in which they differ
pub went_wrong : (octets : List ℕ) (start : ℕ) (all : List ℕ) (at : ℕ) (piece rest from : List ℕ) (place : ℕ) → from ≡ piece ++ rest
    → Went octets start all at from → Differs octets at piece place → Differs octets start all place
went_wrong octets start all at piece rest from place f w h = record {
  stops = λ behind. w.goes behind ∙ ap (λ (xs : List ℕ). differs_from octets at (xs ++ behind)) f
      ∙ ap (differs_from octets at) (append_assoc piece rest behind) ∙ h.stops (rest ++ behind);
}

-- after the last part
pub went_all : (octets : List ℕ) (start : ℕ) (all : List ℕ) (at : ℕ) (rest : List ℕ) → rest ≡ []
    → Went octets start all at rest → Has octets start all at
went_all octets start all at rest e w = record {
  passes = λ behind. w.goes behind ∙ ap (λ (xs : List ℕ). differs_from octets at (xs ++ behind)) e;
}

-- two parts, one behind the other
pub joined : (octets : List ℕ) (start : ℕ) (a b : List ℕ) (end : ℕ) (r : Result ℕ ℕ) → Has octets start a end → Compares octets end b r → Compares octets start (a ++ b) r
joined octets start a b end (Ok last) h g = record {
  passes = λ behind. ap (differs_from octets start) (append_assoc a b behind) ∙ h.passes (b ++ behind) ∙ g.passes behind;
}
joined octets start a b end (Err place) h g = record {
  stops = λ behind. ap (differs_from octets start) (append_assoc a b behind) ∙ h.passes (b ++ behind) ∙ g.stops behind;
}

-- where octets differ from the first
pub wrong_first : (octets : List ℕ) (start : ℕ) (a b : List ℕ) (place : ℕ) → Differs octets start a place → Differs octets start (a ++ b) place
wrong_first octets start a b place h = record {
  stops = λ behind. ap (differs_from octets start) (append_assoc a b behind) ∙ h.stops (b ++ behind);
}

-- nothing is left behind the end
pub all_dropped : {X : Type 0} (xs : List X) (k : ℕ) → length xs ≤ k → drop k xs ≡ []
all_dropped {X = X} xs k h = empty (drop k xs) (omega (arith, h, length-drop k xs))
  where
    empty : (ys : List X) → length ys ≡ 0 → ys ≡ []
    empty [] l = refl
    empty (y ∷ ys) l = absurd cc

-- ILL and ILP, where the format interleaves
pub grouped_part : (o : Option ℕ) (v : Value) (octets : List ℕ) (at x : ℕ) (r : Result ℕ ℕ) → is_none o ≡ false → x ≡ 16 * (v.stride - 1) + v.index
    → Compares octets at (x ∷ []) r → Compares octets at (interleaving_part o v) r
grouped_part None v octets at x r n e h = absurd cc
grouped_part (Some most) v octets at x r n e h = subst (λ (y : ℕ). Compares octets at (y ∷ []) r) e h

pub group_fits : (o : Option ℕ) (blocks : ℕ) (v : Value) → FitsGroup (group_bound o) blocks v → 16 * (v.stride - 1) + v.index < 256
group_fits None blocks v g = let s = g.0 in let i = g.1 in omega arith
group_fits (Some most) blocks v g = let s = g.1 in let i = g.2 in omega arith

-- the bits of an octet of a frame
each_bit : (x o : ℕ) (bits : List Bool) (k n : ℕ) → k + n ≤ 8 → 8 * o + k + n ≤ length bits
    → ((i : ℕ) → i < 8 → 8 * o + i < length bits → nat_eq (x / 2 ^ (7 - i) % 2) 1 ≡ get_or bits (8 * o + i) false)
    → map (bit_at (x ∷ [])) (range_with_len k n) ≡ take n (drop (8 * o + k) bits)
each_bit x o bits k zero a b h = refl
each_bit x o bits k (suc n) a b h =
    let place : k / 8 ≡ 0 = omega arith in
    let inner : k % 8 ≡ k = omega arith in
    let here : bit_at (x ∷ []) k ≡ get_or bits (8 * o + k) false =
    ap (λ d. nat_eq (get_or (x ∷ []) d 0 / 2 ^ (7 - k % 8) % 2) 1) place ∙ ap (λ m. nat_eq (x / 2 ^ (7 - m) % 2) 1) inner ∙ h k (omega arith) (omega arith) in
    (λ i. here i ∷ each_bit x o bits (k + 1) n (omega arith) (omega arith) h i)
    ∙ ap (λ m. get_or bits (8 * o + k) false ∷ take n (drop m bits)) (omega arith)
    ∙ sym (at_drop_more (take (suc n)) bits (8 * o + k) false (omega arith))

pub octet_clear : (x o n : ℕ) (bits : List Bool) → 8 * o < length bits → n ≡ min (length bits - 8 * o) 8
    → ((i : ℕ) → i < 8 → 8 * o + i < length bits → nat_eq (x / 2 ^ (7 - i) % 2) 1 ≡ get_or bits (8 * o + i) false)
    → get_or (filled (bits_at (x ∷ []) 0 n)) 0 0 ≡ get_or (filled bits) o 0
octet_clear x o n bits a e h =
    ap (λ (xs : List Bool). get_or (filled xs) 0 0) (each_bit x o bits 0 n (omega arith) (omega arith) h ∙ ap (λ m. take n (drop m bits)) (omega arith))
    ∙ octet_is bits o n a e

-- no part
pub has_none : (octets : List ℕ) (at : ℕ) → Has octets at [] at
has_none octets at = record { passes = λ behind. refl }

-- one octet that is there, and one that isn't
pub has_octet : (octets : List ℕ) (at x : ℕ) → at < length octets → get_or octets at 0 ≡ x → Has octets at (x ∷ []) (at + 1)
has_octet octets at x h e = record {
  passes = λ behind. ap (λ b. cond (b && nat_eq (get_or octets at 0) x) (differs_from octets (at + 1) behind) (Some at)) (ltb_is at (length octets) h)
      ∙ ap (λ b. cond b (differs_from octets (at + 1) behind) (Some at)) (eq-eqb (get_or octets at 0) x e);
}

pub differs_octet : (octets : List ℕ) (at x : ℕ) → (ltb at (length octets) && nat_eq (get_or octets at 0) x) ≡ false → Differs octets at (x ∷ []) at
differs_octet octets at x e = record {
  stops = λ behind. ap (λ b. cond b (differs_from octets (at + 1) behind) (Some at)) e;
}

-- the parts of the frames from one on
pub parts_at : (F : Frame → List ℕ) (frames : List Frame) (k : ℕ) → k < length frames
    → flat_map F (drop k frames) ≡ F (get_or frames k no_data) ++ flat_map F (drop (k + 1) frames)
parts_at F frames k h = at_drop_more (flat_map F) frames k no_data h

-- the front entry, behind which more entries follow or none
front_entry : (f : Frame) (rest : List Frame) (more : Bool) → (more ≡ true → 0 < length rest) → (more ≡ false → length rest ≡ 0)
    → table_part (f ∷ rest) ≡ entry_octet more f ∷ table_part rest
front_entry f [] true some none = absurd (let h = some refl in omega arith)
front_entry f [] false some none = refl
front_entry f (g ∷ rest) true some none = refl
front_entry f (g ∷ rest) false some none = absurd (let h = none refl in omega arith)

-- the entries of the frames from one on
pub entries_at : (frames : List Frame) (k : ℕ) → k < length frames
    → table_part (drop k frames) ≡ entry_octet (ltb (k + 1) (length frames)) (get_or frames k no_data) ∷ table_part (drop (k + 1) frames)
entries_at frames k h =
    let l = length-drop (k + 1) frames in
    at_drop_more table_part frames k no_data h
    ∙ front_entry (get_or frames k no_data) (drop (k + 1) frames) (ltb (k + 1) (length frames))
    (λ t. let m = ltb-true (k + 1) (length frames) t in omega arith)
    (λ t. let m = ltb-false (k + 1) (length frames) t in omega arith)

-- what the frames from one on have of a part, and that none behind the last have any
pub pieces_at : (p : Profile) (part : Part) (frames : List Frame) (k : ℕ) → k < length frames
    → part_of p part (drop k frames) ≡ piece_of p part frames k ++ part_of p part (drop (k + 1) frames)
pieces_at p Table frames k h = entries_at frames k h
pieces_at p Checks frames k h = parts_at (check_part p) frames k h
pieces_at p Frames frames k h = parts_at frame_part frames k h
pieces_at p (Row octet) frames k h = parts_at (octet_part octet) frames k h

pub no_pieces : (p : Profile) (part : Part) (frames : List Frame) (k : ℕ) → length frames ≤ k
    → part_of p part (drop k frames) ≡ []
no_pieces p part frames k h = ap (part_of p part) (all_dropped frames k h) ∙ none part
  where
    none : (part : Part) → part_of p part [] ≡ []
    none Table = refl
    none Checks = refl
    none Frames = refl
    none (Row octet) = refl

-- the octets of a frame, one more, and one in which they differ
module _ (f : Frame) (octets : List ℕ) (start at o size : ℕ) (is : size ≡ octets_for (length f.bits)) (h : o < size)
    (w : Went octets start (frame_part f) at (drop o (frame_part f))) where
  octet_at : drop o (frame_part f) ≡ (get_or (frame_part f) o 0 ∷ []) ++ drop (o + 1) (frame_part f)
  octet_at = let l = length-filled f.bits in at_drop_more (λ (xs : List ℕ). xs) (frame_part f) o 0 (omega arith)

  pub frame_more : (end : ℕ) → Has octets at (get_or (frame_part f) o 0 ∷ []) end
      → Went octets start (frame_part f) end (drop (o + 1) (frame_part f))
  frame_more end = went_step octets start (frame_part f) at (get_or (frame_part f) o 0 ∷ []) (drop (o + 1) (frame_part f))
      (drop o (frame_part f)) end octet_at w

  pub frame_wrong : (place : ℕ) → Differs octets at (get_or (frame_part f) o 0 ∷ []) place
      → Differs octets start (frame_part f) place
  frame_wrong place = went_wrong octets start (frame_part f) at (get_or (frame_part f) o 0 ∷ [])
      (drop (o + 1) (frame_part f)) (drop o (frame_part f)) place octet_at w

-- the rows of the robust order from one on, and those that go behind the first
abbrev pub rows_from : List Frame → ℕ → List ℕ
rows_from frames o = flat_map (row_part frames) (range_with_len o (longest_of frames - o))

module _ (frames : List Frame) (octets : List ℕ) (start at o size : ℕ) (is : size ≡ longest_of frames) (h : o < size)
    (w : Went octets start (sorted_part frames) at (rows_from frames o)) where
  row_at : rows_from frames o ≡ row_part frames o ++ rows_from frames (o + 1)
  row_at = ap (flat_map (row_part frames)) (range_from o (longest_of frames) (omega arith))

  pub row_more : (end : ℕ) → Has octets at (row_part frames o) end
      → Went octets start (sorted_part frames) end (rows_from frames (o + 1))
  row_more end = went_step octets start (sorted_part frames) at (row_part frames o) (rows_from frames (o + 1))
      (rows_from frames o) end row_at w

  pub row_wrong : (place : ℕ) → Differs octets at (row_part frames o) place
      → Differs octets start (sorted_part frames) place
  row_wrong place = went_wrong octets start (sorted_part frames) at (row_part frames o) (rows_from frames (o + 1))
      (rows_from frames o) place row_at w

-- the first place where octets differ from a text of as many
found_from : (octets text rest : List ℕ) (at : ℕ) → ((i : ℕ) → get_or text (at + i) 0 ≡ get_or rest i 0)
    → at + length rest ≡ length octets → find (differs_at octets text) (range_with_len at (length rest)) ≡ differs_from octets at rest
found_from octets text [] at h l = refl
found_from octets text (x ∷ rest) at h l =
    let here : get_or text at 0 ≡ x = ap (λ n. get_or text n 0) (omega arith) ∙ h 0 in
    let within : ltb at (length octets) ≡ true = grind (arith, l) in
    let more : find (differs_at octets text) (range_with_len (at + 1) (length rest)) ≡ differs_from octets (at + 1) rest =
    found_from octets text rest (at + 1) (λ i. ap (λ n. get_or text n 0) (omega arith) ∙ h (suc i)) (omega arith) in
    ap (λ y. cond (not (nat_eq (get_or octets at 0) y)) (Some at) (find (differs_at octets text) (range_with_len (at + 1) (length rest)))) here
    ∙ ap (λ o. cond (not (nat_eq (get_or octets at 0) x)) (Some at) o) more
    ∙ turned (nat_eq (get_or octets at 0) x) (Some at) (differs_from octets (at + 1) rest)
    ∙ ap (λ b. cond (b && nat_eq (get_or octets at 0) x) (differs_from octets (at + 1) rest) (Some at)) (sym within)
  where
    turned : (b : Bool) (x y : Option ℕ) → cond (not b) x y ≡ cond b y x
    turned true x y = refl
    turned false x y = refl

pub found : (octets text : List ℕ) → length text ≡ length octets → first_difference octets text ≡ differs_from octets 0 text
found octets text l =
    ap (λ n. find (differs_at octets text) (range_with_len 0 n)) (sym l)
    ∙ found_from octets text text 0 (λ i. ap (λ n. get_or text n 0) (omega arith)) (omega arith)

-- octets have all of a text, or differ from it at a place
pub found_none : (octets text : List ℕ) (end : ℕ) → length text ≡ length octets → Has octets 0 text end → first_difference octets text ≡ None
found_none octets text end l h = found octets text l ∙ ap (differs_from octets 0) (sym (append-nil text)) ∙ h.passes []

pub found_some : (octets text : List ℕ) (place : ℕ) → length text ≡ length octets → Differs octets 0 text place → first_difference octets text ≡ Some place
found_some octets text place l h = found octets text l ∙ ap (differs_from octets 0) (sym (append-nil text)) ∙ h.stops []

-- octets are those of their own front
pub own_front : (octets behind : List ℕ) (at k : ℕ) → at + k ≤ length octets
    → differs_from octets at (take k (drop at octets) ++ behind) ≡ differs_from octets (at + k) behind
own_front octets behind at zero h = ap (λ n. differs_from octets n behind) (omega arith)
own_front octets behind at (suc k) h =
    let within : ltb at (length octets) ≡ true = grind (arith, h) in
    let x = get_or octets at 0 in
    at_drop_more (λ (xs : List ℕ). differs_from octets at (take (suc k) xs ++ behind)) octets at 0 (omega arith)
    ∙ ap (λ b. cond (b && nat_eq x x) (differs_from octets (at + 1) (take k (drop (at + 1) octets) ++ behind)) (Some at)) within
    ∙ ap (λ b. cond b (differs_from octets (at + 1) (take k (drop (at + 1) octets) ++ behind)) (Some at)) (eq-eqb x x refl)
    ∙ own_front octets behind (at + 1) k (omega arith)
    ∙ ap (λ n. differs_from octets n behind) (omega arith)
