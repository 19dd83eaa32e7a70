-- The canonical octets of an octet-aligned payload, part by part.
use Rattle.std.proofs.Common.{◌≡◌, ℕ, zero, suc, ◌+◌, ◌*◌, ◌<◌, ◌≤◌, Bool, true, false, cond, ltb, List, [], ◌∷◌, ◌++◌, length, map, take, drop, replicate, get_or, sym, refl, ap, subst, ◌∙◌, arith, Option, Some, None}
use Rattle.std.specs.Prelude.{◌&&◌, is_some, flat_map, filter, sum}
use Rattle.std.specs.List.{range_with_len}
use Rattle.std.proofs.lemmas.Bool.{ltb-true}
use Rattle.std.proofs.lemmas.List.{length-map, length-append, length-take-le, map-append, take-map, drop-map, take-append-drop, append-nil, append_assoc, take_all}
use Rattle.std.proofs.lemmas.List.FromFn.{get_or-map-range_with_len}
use Rattle.std.proofs.lemmas.List.Concat.{flat_map-append}
use Rattle.std.proofs.lemmas.List.Sums.{sum_by-cons}
use Rattle.amr_bits.specs.Bits.{AreOctets, nat, bits_of, bits_at, part, filled, octets_for}
use Rattle.amr_bits.specs.Layout.{Mark, fixed, free, padded, settled}
use Rattle.amr_bits.proofs.Filled.{octet_of, filled-front, gap, length-filled}
use Rattle.amr_bits.proofs.Runs.{run-all, run-append, run-is_part, run-octet}
use Rattle.amr_frame.specs.declared.profile.Profile.{Profile}
use Rattle.amr_frame.specs.Cells.{frame_of}
use Rattle.amr_frame.specs.Frames.{Frame, no_data}
use Rattle.amr_guard.proofs.Rows.{length-robust}
use Rattle.amr_oa.specs.Written.{header_part, checks_part, frame_part, plain_part, row_part, longest_of, sorted_part, body_part, written_as}
use Rattle.amr_toc.specs.Entries.{table_part}
use Rattle.amr_toc.specs.declared.payload.Payload.{Payload}
use Rattle.amr_toc.specs.Payloads.{CarriesInto, meant}
use Rattle.amr_toc.proofs.Settled.{settled_fixed, settled_padded, bits_of_filled}
use Rattle.payload_laws.proofs.Marks.{length-bits_of}
use Rattle.spec_payload.specs.Grammar.{text, layout, aligned_layout, packed_layout, interleaving_octet, table, octet_at, check_of, checked}
use Rattle.spec_payload.specs.RobustOrder.{Place, place, order}
use Rattle.spec_payload.specs.Values.{Value, IsValue, has_bits, octet_counts}

-- the CRCs
checks_are : (p : Profile) (frames : List Frame) → map (check_of p) (checked p frames) ≡ checks_part p frames
checks_are p frames = by_crc p.crc frames
  where
    one : (b : Bool) (f : Frame) (fs : List Frame) → map (check_of p) (cond b (f ∷ fs) fs) ≡ cond b (check_of p f ∷ []) [] ++ map (check_of p) fs
    one true f fs = refl
    one false f fs = refl

    by_crc : (z : Bool) (fs : List Frame) → map (check_of p) (cond z (filter has_bits fs) []) ≡ flat_map (λ (f : Frame). cond (z && has_bits f) (check_of p f ∷ []) []) fs
    by_crc true [] = refl
    by_crc false [] = refl
    by_crc true (f ∷ fs) = one (has_bits f) f (filter has_bits fs) ∙ ap (λ (xs : List ℕ). cond (has_bits f) (check_of p f ∷ []) [] ++ xs) (by_crc true fs)
    by_crc false (f ∷ fs) = by_crc false fs

-- the bits of one octet of a frame
octet_bits : (bits : List Bool) (o : ℕ) → o < octets_for (length bits) → map settled (part (8 * o) 8 (padded (fixed bits))) ≡ nat 8 (get_or (filled bits) o 0)
octet_bits bits o h =
    let l = length-filled bits in
    let marks = padded (fixed bits) in
    sym (take-map settled 8 (drop (8 * o) marks)) ∙ ap (take 8) (sym (drop-map settled (8 * o) marks))
    ∙ ap (part (8 * o) 8) (settled_padded bits ∙ sym (bits_of_filled bits))
    ∙ sym (run-is_part (filled bits) (8 * o) 8 (omega arith)) ∙ run-octet (filled bits) o

-- octets that stand at places of frames
record Stand (frames : List Frame) (places : List Place) (octets : List ℕ) : Type 0 where
  bits : map settled (flat_map (octet_at frames) places) ≡ bits_of octets
  many : length octets ≡ length places

stand_none : (frames : List Frame) → Stand frames [] []
stand_none frames = record { bits = refl; many = refl }

stand_more : (frames : List Frame) (ps qs : List Place) (xs ys : List ℕ) → Stand frames ps xs → Stand frames qs ys → Stand frames (ps ++ qs) (xs ++ ys)
stand_more frames ps qs xs ys a b = record {
  bits = ap (map settled) (flat_map-append (octet_at frames) ps qs) ∙ map-append settled (flat_map (octet_at frames) ps) (flat_map (octet_at frames) qs)
      ∙ (λ i. a.bits i ++ b.bits i) ∙ sym (flat_map-append (nat 8) xs ys);
  many = let m = a.many in let n = b.many in omega (arith, length-append ps qs, length-append xs ys);
}

stand_one : (frames : List Frame) (f o : ℕ) → o < octets_for (length (get_or frames f no_data).bits) → Stand frames (place o f ∷ []) (get_or (filled (get_or frames f no_data).bits) o 0 ∷ [])
stand_one frames f o h =
    let bits = (get_or frames f no_data).bits in
    record {
      bits = ap (map settled) (append-nil (part (8 * o) 8 (padded (fixed bits)))) ∙ octet_bits bits o h ∙ sym (append-nil (nat 8 (get_or (filled bits) o 0)));
      many = refl;
    }

-- pieces of both, one behind the other
stand_each : (frames : List Frame) (F : ℕ → List Place) (G : ℕ → List ℕ) (xs : List ℕ) → ((x : ℕ) → Stand frames (F x) (G x)) → Stand frames (flat_map F xs) (flat_map G xs)
stand_each frames F G [] h = stand_none frames
stand_each frames F G (x ∷ xs) h = stand_more frames (F x) (flat_map F xs) (G x) (flat_map G xs) (h x) (stand_each frames F G xs h)

-- octets of one frame
in_frame : (frames : List Frame) (f b n : ℕ) → b + n ≤ octets_for (length (get_or frames f no_data).bits) → Stand frames (map (λ (o : ℕ). place o f) (range_with_len b n)) (map (octet_of (get_or frames f no_data).bits) (range_with_len b n))
in_frame frames f b zero h = stand_none frames
in_frame frames f b (suc n) h =
    let bits = (get_or frames f no_data).bits in
    let rest = map (octet_of bits) (range_with_len (b + 1) n) in
    subst (λ (x : ℕ). Stand frames (map (λ (o : ℕ). place o f) (range_with_len b (suc n))) (x ∷ rest))
    (get_or-map-range_with_len (octet_of bits) 0 (octets_for (length bits)) b b 0 (omega arith) (omega arith))
    (stand_more frames (place b f ∷ []) (map (λ (o : ℕ). place o f) (range_with_len (b + 1) n)) (get_or (filled bits) b 0 ∷ []) rest (stand_one frames f b (omega arith)) (in_frame frames f (b + 1) n (omega arith)))

-- how many octets a frame has, by place
count_at : (frames : List Frame) (k : ℕ) → get_or (octet_counts frames) k 0 ≡ octets_for (length (get_or frames k no_data).bits)
count_at [] k = refl
count_at (f ∷ fs) zero = refl
count_at (f ∷ fs) (suc k) = count_at fs k

-- the octets of a frame
whole_frame : (frames : List Frame) (f : ℕ) → Stand frames (map (λ (o : ℕ). place o f) (range_with_len 0 (get_or (octet_counts frames) f 0))) (frame_part (get_or frames f no_data))
whole_frame frames f =
    let n = octets_for (length (get_or frames f no_data).bits) in
    subst (λ (m : ℕ). Stand frames (map (λ (o : ℕ). place o f) (range_with_len 0 m)) (frame_part (get_or frames f no_data))) (sym (count_at frames f)) (in_frame frames f 0 n (omega arith))

-- frames from one on, one behind the other
plain_from : (frames : List Frame) (a : ℕ) (gs : List Frame) → ((k : ℕ) → get_or frames (a + k) no_data ≡ get_or gs k no_data)
    → Stand frames (flat_map (λ (f : ℕ). map (λ (o : ℕ). place o f) (range_with_len 0 (get_or (octet_counts frames) f 0))) (range_with_len a (length gs))) (plain_part gs)
plain_from frames a [] h = stand_none frames
plain_from frames a (g ∷ gs) h =
    let row = λ (f : ℕ). map (λ (o : ℕ). place o f) (range_with_len 0 (get_or (octet_counts frames) f 0)) in
    let here : get_or frames a no_data ≡ g = ap (λ (n : ℕ). get_or frames n no_data) (omega arith) ∙ h 0 in
    stand_more frames (row a) (flat_map row (range_with_len (a + 1) (length gs))) (frame_part g) (plain_part gs)
    (subst (λ (f : Frame). Stand frames (row a) (frame_part f)) here (whole_frame frames a))
    (plain_from frames (a + 1) gs (λ k. ap (λ (n : ℕ). get_or frames n no_data) (omega arith) ∙ h (suc k)))

-- octet o of the frames from one on
row_from : (frames : List Frame) (o a : ℕ) (gs : List Frame) → ((k : ℕ) → get_or frames (a + k) no_data ≡ get_or gs k no_data)
    → Stand frames (map (λ (f : ℕ). place o f) (filter (λ (f : ℕ). ltb o (get_or (octet_counts frames) f 0)) (range_with_len a (length gs)))) (row_part gs o)
row_from frames o a [] h = stand_none frames
row_from frames o a (g ∷ gs) h =
    let places = filter (λ (f : ℕ). ltb o (get_or (octet_counts frames) f 0)) (range_with_len (a + 1) (length gs)) in
    let here : get_or frames a no_data ≡ g = ap (λ (n : ℕ). get_or frames n no_data) (omega arith) ∙ h 0 in
    let count : get_or (octet_counts frames) a 0 ≡ octets_for (length g.bits) = count_at frames a ∙ ap (λ (f : Frame). octets_for (length f.bits)) here in
    let rest : Stand frames (map (λ (f : ℕ). place o f) places) (row_part gs o) = row_from frames o (a + 1) gs (λ k. ap (λ (n : ℕ). get_or frames n no_data) (omega arith) ∙ h (suc k)) in
    by_test (ltb o (octets_for (length g.bits))) refl here count places rest
  where
    by_test : (z : Bool) → ltb o (octets_for (length g.bits)) ≡ z → get_or frames a no_data ≡ g → get_or (octet_counts frames) a 0 ≡ octets_for (length g.bits) → (places : List ℕ) → Stand frames (map (λ (f : ℕ). place o f) places) (row_part gs o)
        → Stand frames (map (λ (f : ℕ). place o f) (cond (ltb o (get_or (octet_counts frames) a 0)) (a ∷ places) places)) (row_part (g ∷ gs) o)
    by_test true t here count places rest =
        let one : Stand frames (place o a ∷ []) (get_or (filled g.bits) o 0 ∷ []) = subst (λ (f : Frame). o < octets_for (length f.bits) → Stand frames (place o a ∷ []) (get_or (filled f.bits) o 0 ∷ [])) here (stand_one frames a o) (ltb-true o (octets_for (length g.bits)) t) in
        subst (λ (z : Bool). Stand frames (map (λ (f : ℕ). place o f) (cond z (a ∷ places) places)) (cond (ltb o (octets_for (length g.bits))) (get_or (filled g.bits) o 0 ∷ []) [] ++ row_part gs o)) (sym (ap (ltb o) count ∙ t))
        (subst (λ (z : Bool). Stand frames (place o a ∷ map (λ (f : ℕ). place o f) places) (cond z (get_or (filled g.bits) o 0 ∷ []) [] ++ row_part gs o)) (sym t)
        (stand_more frames (place o a ∷ []) (map (λ (f : ℕ). place o f) places) (get_or (filled g.bits) o 0 ∷ []) (row_part gs o) one rest))
    by_test false t here count places rest =
        subst (λ (z : Bool). Stand frames (map (λ (f : ℕ). place o f) (cond z (a ∷ places) places)) (cond (ltb o (octets_for (length g.bits))) (get_or (filled g.bits) o 0 ∷ []) [] ++ row_part gs o)) (sym (ap (ltb o) count ∙ t))
        (subst (λ (z : Bool). Stand frames (map (λ (f : ℕ). place o f) places) (cond z (get_or (filled g.bits) o 0 ∷ []) [] ++ row_part gs o)) (sym t) rest)

-- the frames in either order
body_is : (sorting : Bool) (frames : List Frame) → Stand frames (order sorting (octet_counts frames)) (body_part sorting frames)
body_is false frames =
    subst (λ (n : ℕ). Stand frames (flat_map (λ (f : ℕ). map (λ (o : ℕ). place o f) (range_with_len 0 (get_or (octet_counts frames) f 0))) (range_with_len 0 n)) (plain_part frames))
    (sym (length-map frames (λ (f : Frame). octets_for (length f.bits)))) (plain_from frames 0 frames (λ k. ap (λ (n : ℕ). get_or frames n no_data) (omega arith)))
body_is true frames =
    let counts = octet_counts frames in
    let row = λ (n o : ℕ). map (λ (f : ℕ). place o f) (filter (λ (f : ℕ). ltb o (get_or counts f 0)) (range_with_len 0 n)) in
    subst (λ (n : ℕ). Stand frames (flat_map (row n) (range_with_len 0 (longest_of frames))) (sorted_part frames))
    (sym (length-map frames (λ (f : Frame). octets_for (length f.bits))))
    (stand_each frames (row (length frames)) (row_part frames) (range_with_len 0 (longest_of frames)) (λ o. row_from frames o 0 frames (λ k. ap (λ (n : ℕ). get_or frames n no_data) (omega arith))))

-- how many octets the frames have
length-plain : (frames : List Frame) → length (plain_part frames) ≡ sum (octet_counts frames)
length-plain [] = refl
length-plain (f ∷ fs) =
    let r = length-plain fs in
    let s = length-append (filled f.bits) (plain_part fs) in
    let l = length-filled f.bits in
    let m = sum_by-cons (λ (x : ℕ). x) (octets_for (length f.bits)) (octet_counts fs) in
    omega arith

pub length-body : (sorting : Bool) (frames : List Frame) → length (body_part sorting frames) ≡ length (plain_part frames)
length-body false frames = refl
length-body true frames = (body_is true frames).many ∙ length-robust (octet_counts frames) ∙ sym (length-plain frames)

-- the parts of a layout as they are written
parts : (a b c d e f : List Mark) → map settled (a ++ b ++ c ++ d ++ e ++ f)
    ≡ map settled (a ++ b ++ c) ++ map settled d ++ map settled e ++ map settled f
parts a b c d e f = simp (map-append, append_assoc)

-- the bits of an octet-aligned payload
settled_aligned : (p : Profile) (v : Value)
    → map settled (aligned_layout p v (map (check_of p) (checked p v.frames))) ≡ written_as p v
settled_aligned p v =
    let cs = map (check_of p) (checked p v.frames) in
    let header = header_part p v in
    let entries = table_part 8 v.frames in
    let checks = checks_part p v.frames in
    let body = body_part p.sorting v.frames in
    let are_checks : map settled (fixed (bits_of cs)) ≡ bits_of checks =
    settled_fixed (bits_of cs) ∙ ap bits_of (checks_are p v.frames) in
    parts (fixed (nat 4 v.cmr)) (free 4) (interleaving_octet p.interleaving v) (table 2 v.frames) (fixed (bits_of cs))
    (flat_map (octet_at v.frames) (order p.sorting (octet_counts v.frames)))
    ∙ (λ i. header ++ entries ++ are_checks i ++ (body_is p.sorting v.frames).bits i)
    ∙ append_assoc (header ++ entries) (bits_of checks) (bits_of body)
    ∙ ap (λ (xs : List Bool). (header ++ entries) ++ xs) (sym (flat_map-append (nat 8) checks body))

settled_layout : (p : Profile) (v : Value) → p.octet_aligned ≡ true
    → map settled (layout p v (map (check_of p) (checked p v.frames))) ≡ written_as p v
settled_layout p v aligned =
    let cs = map (check_of p) (checked p v.frames) in
    ap (λ z. map settled (cond z (aligned_layout p v cs) (packed_layout v))) aligned ∙ settled_aligned p v

-- the canonical octets
pub text_is : (p : Profile) (v : Value) → p.octet_aligned ≡ true → text p v ≡ filled (written_as p v)
text_is p v aligned = ap filled (settled_layout p v aligned)

-- how many bits a table has
length-table : (frames : List Frame) → length (table_part 8 frames) ≡ 8 * length frames
length-table [] = refl
length-table (f ∷ []) = refl
length-table (f ∷ g ∷ fs) = let r = length-table (g ∷ fs) in omega arith

-- and a header
length-header : (p : Profile) (v : Value) → length (header_part p v) ≡ 8 * cond (is_some p.interleaving) 2 1
length-header p v = by p.interleaving
  where
    by : (o : Option ℕ)
        → length (map settled (fixed (nat 4 v.cmr) ++ free 4 ++ interleaving_octet o v)) ≡ 8 * cond (is_some o) 2 1
    by None = refl
    by (Some most) = refl

-- and a payload
length-written : (p : Profile) (v : Value) → length (written_as p v)
    ≡ 8 * (cond (is_some p.interleaving) 2 1 + length v.frames + length (checks_part p v.frames)
    + length (plain_part v.frames))
length-written p v =
    let h = header_part p v in
    let t = table_part 8 v.frames in
    let c = checks_part p v.frames in
    let b = body_part p.sorting v.frames in
    let l = length-append (h ++ t) (bits_of (c ++ b)) in
    let m = length-append h t in
    let n = length-append c b in
    let o = length-bits_of (c ++ b) in
    let r = length-header p v in
    let s = length-table v.frames in
    let q = length-body p.sorting v.frames in
    omega arith

pub length-text : (p : Profile) (v : Value) → p.octet_aligned ≡ true → IsValue p v
    → length (text p v) ≡ cond (is_some p.interleaving) 2 1 + length v.frames + length (checks_part p v.frames)
    + length (plain_part v.frames)
length-text p v aligned h =
    let w = written_as p v in
    let n = length-written p v in
    ap length (text_is p v aligned) ∙ length-filled w ∙ omega arith

-- a payload is as long as the octets that it is to be written into
pub has_room : (p : Profile) (payload : Payload) (out : List ℕ) → p.octet_aligned ≡ true → CarriesInto p payload out
    → length out ≡ cond (is_some p.interleaving) 2 1 + length payload.cells.now
    + length (checks_part p (meant payload).frames) + length (body_part p.sorting (meant payload).frames)
has_room p payload out aligned h =
    let all = length-text p (meant payload) aligned h.carried.value in
    let size = length-map payload.cells.now frame_of in
    let body = length-body p.sorting (meant payload).frames in
    let room = h.size in
    omega arith

-- octets that have these bits
below : (octets : List ℕ) → AreOctets octets → (k : ℕ) → get_or octets k 0 < 256
below [] are k = omega arith
below (o ∷ octets) are zero = are.0
below (o ∷ octets) are (suc k) = below octets are.1 k

pub filled_octets : (octets : List ℕ) → AreOctets octets → filled (bits_of octets) ≡ octets
filled_octets octets are =
    let n = length octets in
    ap filled (sym (run-all octets) ∙ sym (append-nil (bits_at octets 0 (8 * n))))
    ∙ filled-front octets n [] (omega arith) (below octets are)
    ∙ append-nil (take n octets) ∙ take_all n octets (omega arith)

-- octets of which some were written bit by bit, and the others behind them, are those that all bits fill
pub all_written : (octets now : List ℕ) (n : ℕ) (bits : List Bool) (behind : List ℕ) → n ≤ length octets
    → AreOctets now → now ≡ take n octets ++ behind → bits_at octets 0 (8 * n) ≡ bits → now ≡ filled (bits ++ bits_of behind)
all_written octets now n bits behind fits are e b =
    let front = take n octets in
    let size : length front ≡ n = length-take-le n octets fits in
    let whole : bits_of front ≡ bits =
    sym (run-all front) ∙ ap (λ (m : ℕ). bits_at front 0 (8 * m)) size
    ∙ sym (run-append front (drop n octets) (8 * n) (omega arith))
    ∙ ap (λ (xs : List ℕ). bits_at xs 0 (8 * n)) (take-append-drop n octets) ∙ b in
    sym (filled_octets now are)
    ∙ ap (λ (xs : List ℕ). filled (bits_of xs)) e
    ∙ ap filled (flat_map-append (nat 8) front behind ∙ ap (λ (xs : List Bool). xs ++ bits_of behind) whole)

-- the bits of the canonical octets are those that are written
pub bits_of_text : (p : Profile) (v : Value) → p.octet_aligned ≡ true → IsValue p v → bits_of (text p v) ≡ map settled (layout p v (map (check_of p) (checked p v.frames)))
bits_of_text p v aligned h =
    let w = written_as p v in
    let l = length-written p v in
    let none : gap w ≡ 0 = omega arith in
    ap bits_of (text_is p v aligned) ∙ bits_of_filled w ∙ ap (λ (n : ℕ). w ++ replicate n false) none
    ∙ append-nil w ∙ sym (settled_layout p v aligned)
