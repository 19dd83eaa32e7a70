-- An octet-aligned payload has one value and one list of CRCs.
use Rattle.std.proofs.Common.{◌≡◌, ℕ, zero, suc, ◌-◌, ◌*◌, ◌<◌, ◌≤◌, Bool, true, false, cond, ltb, List, [], ◌∷◌, ◌++◌, length, take, drop, get_or, sym, refl, ap, ◌∙◌, subst, arith, Option, Some, None, append_assoc}
use Rattle.std.specs.Prelude.{filter}
use Rattle.std.specs.List.{flat_map, AllByRecursion}
use Rattle.std.proofs.lemmas.List.{append-nil, length-map, get_or-map}
use Rattle.amr_bits.specs.Bits.{nat, bits_of, octets_for}
use Rattle.amr_bits.specs.Layout.{Mark, fixed, free, fits}
use Rattle.amr_frame.specs.declared.codec.Codec.{Codec}
use Rattle.amr_frame.specs.declared.profile.Profile.{Profile}
use Rattle.amr_frame.specs.Frames.{Frame, IsFrame, no_data}
use Rattle.amr_frame.specs.Profiles.{group_bound}
use Rattle.amr_frame.specs.Tables.{bits_in}
use Rattle.spec_payload.specs.Grammar.{IsPayload, table, interleaving_octet, octet_at, layout, aligned_layout, packed_layout, checked}
use Rattle.spec_payload.specs.RobustOrder.{Place, order}
use Rattle.spec_payload.specs.Values.{Value, FitsGroup, has_bits, octet_counts}
use Rattle.amr_bits.proofs.Lists.{length-cond}
use Rattle.payload_laws.proofs.Marks.{length-bits_of, Both, both_fixed, both_free, one_number}
use Rattle.payload_laws.proofs.Places.{each_place}
use Rattle.payload_laws.proofs.SameTables.{AreFrames, SameHeads, frame, value_parts, both_tables}
use Rattle.payload_laws.proofs.Shapes.{both_pieces, shape_part, bits_from_octets}

-- frames of the same type have as many bits
same_size : (codec : Codec) (f g : Frame) → IsFrame codec f → IsFrame codec g → f.ft ≡ g.ft → length f.bits ≡ length g.bits
same_size codec f g a b e = a.size ∙ ap (bits_in codec) e ∙ sym b.size

-- frames with the same table have as many octets
same_counts : (codec : Codec) (fs gs : List Frame) → AreFrames codec fs → AreFrames codec gs → SameHeads fs gs → octet_counts fs ≡ octet_counts gs
same_counts codec [] [] a b e = refl
same_counts codec [] (g ∷ gs) a b e = absurd e
same_counts codec (f ∷ fs) [] a b e = absurd e
same_counts codec (f ∷ fs) (g ∷ gs) a b e = λ i. octets_for (same_size codec f g a.0 b.0 e.0 i) ∷ same_counts codec fs gs a.1 b.1 e.2 i

-- the same of one of them, by place
same_size_at : (codec : Codec) (fs gs : List Frame) (k : ℕ) → AreFrames codec fs → AreFrames codec gs → SameHeads fs gs → length (get_or fs k no_data).bits ≡ length (get_or gs k no_data).bits
same_size_at codec [] [] k a b e = refl
same_size_at codec [] (g ∷ gs) k a b e = absurd e
same_size_at codec (f ∷ fs) [] k a b e = absurd e
same_size_at codec (f ∷ fs) (g ∷ gs) zero a b e = same_size codec f g a.0 b.0 e.0
same_size_at codec (f ∷ fs) (g ∷ gs) (suc k) a b e = same_size_at codec fs gs k a.1 b.1 e.2

-- frames with the same table have as many CRCs
same_checked : (codec : Codec) (fs gs : List Frame) → AreFrames codec fs → AreFrames codec gs → SameHeads fs gs → length (filter has_bits fs) ≡ length (filter has_bits gs)
same_checked codec [] [] a b e = refl
same_checked codec [] (g ∷ gs) a b e = absurd e
same_checked codec (f ∷ fs) [] a b e = absurd e
same_checked codec (f ∷ fs) (g ∷ gs) a b e =
    let h : has_bits f ≡ has_bits g = ap (λ n. ltb 0 n) (same_size codec f g a.0 b.0 e.0) in
    length-cond (has_bits f) f (filter has_bits fs) g (filter has_bits gs) (same_checked codec fs gs a.1 b.1 e.2)
    ∙ ap (λ z. length (cond z (g ∷ filter has_bits gs) (filter has_bits gs))) h

-- the same for a format
same_many : (p : Profile) (fs gs : List Frame) → AreFrames p.codec fs → AreFrames p.codec gs → SameHeads fs gs → length (checked p fs) ≡ length (checked p gs)
same_many p fs gs a b e = by_crc p.crc (same_checked p.codec fs gs a b e)
  where
    by_crc : (z : Bool) → length (filter has_bits fs) ≡ length (filter has_bits gs) → length (cond z (filter has_bits fs) []) ≡ length (cond z (filter has_bits gs) [])
    by_crc true h = h
    by_crc false h = refl

-- octets with the same bits are equal
one_list : (cs ds : List ℕ) → AllByRecursion (λ c. c < 256) cs → AllByRecursion (λ c. c < 256) ds → bits_of cs ≡ bits_of ds → cs ≡ ds
one_list [] [] a b e = refl
one_list [] (d ∷ ds) a b e = absurd cc
one_list (c ∷ cs) [] a b e = absurd cc
one_list (c ∷ cs) (d ∷ ds) a b e =
    let h : nat 8 c ≡ nat 8 d = ap (take 8) e in
    let t : bits_of cs ≡ bits_of ds = ap (drop 8) e in
    λ i. one_number 8 c d a.0 b.0 h i ∷ one_list cs ds a.1 b.1 t i

-- frames with the same table and equal bits are equal
same_frames : (fs gs : List Frame) → SameHeads fs gs → ((k : ℕ) → k < length fs → (get_or fs k no_data).bits ≡ (get_or gs k no_data).bits) → fs ≡ gs
same_frames [] [] e h = refl
same_frames [] (g ∷ gs) e h = absurd e
same_frames (f ∷ fs) [] e h = absurd e
same_frames (f ∷ fs) (g ∷ gs) e h = λ i. frame (e.0 i) (e.1 i) (h 0 (omega arith) i) ∷ same_frames fs gs e.2 (λ k l. h (suc k) (omega arith)) i

-- the octets of frames, in either order
abbrev body : Bool → List Frame → List Mark
body sorting fs = flat_map (octet_at fs) (order sorting (octet_counts fs))

-- frames with the same table and the same octets are equal
same_bodies : (codec : Codec) (sorting : Bool) (fs gs : List Frame) (m n : List Mark) → AreFrames codec fs → AreFrames codec gs → SameHeads fs gs → Both (body sorting fs ++ m) (body sorting gs ++ n) → fs ≡ gs
same_bodies codec sorting fs gs m n a b e h =
    let counts = octet_counts fs in
    let bits_f = λ (k : ℕ). (get_or fs k no_data).bits in
    let bits_g = λ (k : ℕ). (get_or gs k no_data).bits in
    let sizes = λ (k : ℕ). same_size_at codec fs gs k a b e in
    let h1 : Both (flat_map (octet_at fs) (order sorting counts) ++ m) (flat_map (octet_at gs) (order sorting counts) ++ n) = subst (λ c. Both (flat_map (octet_at fs) (order sorting counts) ++ m) (flat_map (octet_at gs) (order sorting c) ++ n)) (sym (same_counts codec fs gs a b e)) h in
    let all = both_pieces (octet_at fs) (octet_at gs) (order sorting counts) m n (λ (x : Place). shape_part (8 * x.octet) (bits_f x.frame) (bits_g x.frame) (sizes x.frame)) h1 in
    let len = length-map fs (λ (f : Frame). octets_for (length f.bits)) in
    let count = λ (k : ℕ) (l : k < length fs). get_or-map (λ (f : Frame). octets_for (length f.bits)) fs k no_data 0 l in
    same_frames fs gs e (λ k l. bits_from_octets (bits_f k) (bits_g k) (sizes k) (λ o lo. each_place (λ x. octet_at fs x ≡ octet_at gs x) sorting counts o k (omega (arith, len)) (let q = count k l in omega arith) all))

-- two interleaving octets that the same bits have
both_groups : (o : Option ℕ) (x y : ℕ) (v w : Value) (m n : List Mark) → FitsGroup (group_bound o) x v → FitsGroup (group_bound o) y w → Both (interleaving_octet o v ++ m) (interleaving_octet o w ++ n) → (v.stride ≡ w.stride) × (v.index ≡ w.index) × Both m n
both_groups None x y v w m n a b h = (a.0 ∙ sym b.0, a.1 ∙ sym b.1, h)
both_groups (Some most) x y v w m n a b h =
    let r = both_fixed (nat 4 (v.stride - 1) ++ nat 4 v.index) (nat 4 (w.stride - 1) ++ nat 4 w.index) m n refl h in
    let s : nat 4 (v.stride - 1) ≡ nat 4 (w.stride - 1) = ap (take 4) r.0 in
    let t : nat 4 v.index ≡ nat 4 w.index = ap (drop 4) r.0 in
    let a0 = a.0 in let a1 = a.1 in let a2 = a.2 in
    let b0 = b.0 in let b1 = b.1 in let b2 = b.2 in
    let less : v.stride - 1 ≡ w.stride - 1 = one_number 4 (v.stride - 1) (w.stride - 1) (omega arith) (omega arith) s in
    (omega arith, one_number 4 v.index w.index (omega arith) (omega arith) t, r.1)

-- the six parts of a payload
six : (a b c d e f : List Mark) → a ++ b ++ c ++ d ++ e ++ f ≡ a ++ (b ++ (c ++ (d ++ (e ++ (f ++ [])))))
six a b c d e f = simp (append_assoc, append-nil)

-- an octet-aligned payload has one value and one list of CRCs
pub one_aligned : (p : Profile) (v w : Value) (checks others octets : List ℕ) → p.octet_aligned ≡ true → 1 ≤ p.channels → IsPayload p v checks octets → IsPayload p w others octets → (v ≡ w) × (checks ≡ others)
one_aligned p v w checks others octets aligned some a b =
    let group = λ (x : Value). interleaving_octet p.interleaving x in
    let last = λ (x : Value). body p.sorting x.frames ++ [] in
    let guarded = λ (x : Value) (cs : List ℕ). fixed (bits_of cs) ++ last x in
    let tables = λ (x : Value) (cs : List ℕ). table 2 x.frames ++ guarded x cs in
    let split : (x : Value) (cs : List ℕ) → layout p x cs ≡ fixed (nat 4 x.cmr) ++ (free 4 ++ (group x ++ tables x cs)) = λ x cs. ap (λ z. cond z (aligned_layout p x cs) (packed_layout x)) aligned ∙ six (fixed (nat 4 x.cmr)) (free 4) (group x) (table 2 x.frames) (fixed (bits_of cs)) (body p.sorting x.frames) in
    let h : Both (fixed (nat 4 v.cmr) ++ (free 4 ++ (group v ++ tables v checks))) (fixed (nat 4 w.cmr) ++ (free 4 ++ (group w ++ tables w others))) = record { bits = bits_of octets; one = ap (λ m. fits m (bits_of octets)) (sym (split v checks)) ∙ a.bits; two = ap (λ m. fits m (bits_of octets)) (sym (split w others)) ∙ b.bits } in
    let va = a.value in
    let vb = b.value in
    let r = both_fixed (nat 4 v.cmr) (nat 4 w.cmr) (free 4 ++ (group v ++ tables v checks)) (free 4 ++ (group w ++ tables w others)) refl h in
    let s = both_free 4 (group v ++ tables v checks) (group w ++ tables w others) r.1 in
    let g = both_groups p.interleaving va.blocks vb.blocks v w (tables v checks) (tables w others) va.group vb.group s in
    let t = both_tables p.codec 2 p.channels va.blocks vb.blocks v.frames w.frames (guarded v checks) (guarded w others) some va.whole va.some vb.whole vb.some va.frames vb.frames g.2 in
    let many : length checks ≡ length others = a.as_many ∙ same_many p v.frames w.frames va.frames vb.frames t.0 ∙ sym b.as_many in
    let long : length (bits_of checks) ≡ length (bits_of others) = length-bits_of checks ∙ ap (λ z. 8 * z) many ∙ sym (length-bits_of others) in
    let c = both_fixed (bits_of checks) (bits_of others) (last v) (last w) long t.1 in
    let frames = same_bodies p.codec p.sorting v.frames w.frames [] [] va.frames vb.frames t.0 c.1 in
    (value_parts v w (one_number 4 v.cmr w.cmr va.cmr vb.cmr r.0) g.0 g.1 frames, one_list checks others a.are_octets b.are_octets c.0)
