-- A bandwidth-efficient payload has one value.
use Rattle.std.proofs.Common.{◌≡◌, ℕ, ◌+◌, ◌-◌, ◌*◌, ◌/◌, cond, List, [], ◌∷◌, ◌++◌, length, sym, refl, ap, ◌∙◌, subst, arith, append_assoc}
use Rattle.std.specs.List.{flat_map}
use Rattle.amr_frame.specs.declared.codec.Codec.{Codec}
use Rattle.amr_frame.specs.declared.profile.Profile.{Profile}
use Rattle.amr_bits.specs.Bits.{nat, bits_of}
use Rattle.amr_bits.specs.Layout.{Mark, fixed, free, fits}
use Rattle.amr_frame.specs.Frames.{Frame}
use Rattle.amr_frame.specs.Profiles.{group_bound}
use Rattle.amr_frame.specs.Tables.{bits_in}
use Rattle.spec_payload.specs.Grammar.{IsPayload, table, layout, aligned_layout, packed_layout, checked}
use Rattle.spec_payload.specs.Values.{Value, FitsGroup}
use Rattle.payload_laws.proofs.Formats.{IsPlain}
use Rattle.payload_laws.proofs.Marks.{Both, both_fixed, one_number}
use Rattle.payload_laws.proofs.SameTables.{AreFrames, SameHeads, frame, value_parts, both_tables}

-- frames with the same table and the same bits are equal
same_bodies : (codec : Codec) (fs gs : List Frame) (m n : List Mark) → AreFrames codec fs → AreFrames codec gs → SameHeads fs gs → Both (flat_map (λ (f : Frame). fixed f.bits) fs ++ m) (flat_map (λ (f : Frame). fixed f.bits) gs ++ n) → fs ≡ gs
same_bodies codec [] [] m n a b e h = refl
same_bodies codec [] (g ∷ gs) m n a b e h = absurd e
same_bodies codec (f ∷ fs) [] m n a b e h = absurd e
same_bodies codec (f ∷ fs) (g ∷ gs) m n a b e h =
    let body = λ (x : Frame). fixed x.bits in
    let len : length f.bits ≡ length g.bits = a.0.size ∙ ap (bits_in codec) e.0 ∙ sym b.0.size in
    let h1 : Both (fixed f.bits ++ (flat_map body fs ++ m)) (fixed g.bits ++ (flat_map body gs ++ n)) = subst (λ r. Both r (fixed g.bits ++ (flat_map body gs ++ n))) (append_assoc (fixed f.bits) (flat_map body fs) m) (subst (λ r. Both (flat_map body (f ∷ fs) ++ m) r) (append_assoc (fixed g.bits) (flat_map body gs) n) h) in
    let r = both_fixed f.bits g.bits (flat_map body fs ++ m) (flat_map body gs ++ n) len h1 in
    let rest = same_bodies codec fs gs m n a.1 b.1 e.2 r.1 in
    λ i. frame (e.0 i) (e.1 i) (r.0 i) ∷ rest i

-- the three parts of a payload and what follows
parts : (v : Value) (r : List Mark) → ((fixed (nat 4 v.cmr) ++ table 0 v.frames) ++ flat_map (λ (f : Frame). fixed f.bits) v.frames) ++ r ≡ fixed (nat 4 v.cmr) ++ (table 0 v.frames ++ (flat_map (λ (f : Frame). fixed f.bits) v.frames ++ r))
parts v r = simp append_assoc

-- no CRCs are the empty list
no_checks : (cs : List ℕ) → length cs ≡ 0 → cs ≡ []
no_checks [] e = refl
no_checks (x ∷ cs) e = absurd (omega arith)

-- a payload of such a format has one value, and no CRC
pub one_packed : (p : Profile) (v w : Value) (checks others octets : List ℕ) → IsPlain p → IsPayload p v checks octets → IsPayload p w others octets → (v ≡ w) × (checks ≡ others)
one_packed p v w checks others octets plain a b =
    let tail = λ (x : Value). free (8 * ((length ((fixed (nat 4 x.cmr) ++ table 0 x.frames) ++ flat_map (λ (f : Frame). fixed f.bits) x.frames) + 7) / 8) - length ((fixed (nat 4 x.cmr) ++ table 0 x.frames) ++ flat_map (λ (f : Frame). fixed f.bits) x.frames)) in
    let bodies = λ (x : Value). flat_map (λ (f : Frame). fixed f.bits) x.frames ++ tail x in
    let rest = λ (x : Value). table 0 x.frames ++ bodies x in
    let split : (x : Value) (cs : List ℕ) → layout p x cs ≡ fixed (nat 4 x.cmr) ++ rest x = λ x cs. ap (λ z. cond z (aligned_layout p x cs) (packed_layout x)) plain.packed ∙ parts x (tail x) in
    let h : Both (fixed (nat 4 v.cmr) ++ rest v) (fixed (nat 4 w.cmr) ++ rest w) = record { bits = bits_of octets; one = ap (λ m. fits m (bits_of octets)) (sym (split v checks)) ∙ a.bits; two = ap (λ m. fits m (bits_of octets)) (sym (split w others)) ∙ b.bits } in
    let r = both_fixed (nat 4 v.cmr) (nat 4 w.cmr) (rest v) (rest w) refl h in
    let va = a.value in
    let vb = b.value in
    let t = both_tables p.codec 0 p.channels va.blocks vb.blocks v.frames w.frames (bodies v) (bodies w) plain.channels va.whole va.some vb.whole vb.some va.frames vb.frames r.1 in
    let frames = same_bodies p.codec v.frames w.frames (tail v) (tail w) va.frames vb.frames t.0 t.1 in
    let ga : (v.stride ≡ 1) × (v.index ≡ 0) = subst (λ o. FitsGroup (group_bound o) va.blocks v) plain.interleaving va.group in
    let gb : (w.stride ≡ 1) × (w.index ≡ 0) = subst (λ o. FitsGroup (group_bound o) vb.blocks w) plain.interleaving vb.group in
    let none : (x : List Frame) → checked p x ≡ [] = λ x. rw plain.crc refl in (
      value_parts v w (one_number 4 v.cmr w.cmr va.cmr vb.cmr r.0) (ga.0 ∙ sym gb.0) (ga.1 ∙ sym gb.1) frames,
      no_checks checks (a.as_many ∙ ap length (none v.frames)) ∙ sym (no_checks others (b.as_many ∙ ap length (none w.frames))),
    )
