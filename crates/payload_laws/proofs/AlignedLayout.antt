-- Octet-aligned payloads (RFC 4867, 4.4): what is in the grammar isn't refused, and what isn't refused is in the grammar.
use Rattle.std.proofs.Common.{◌≡◌, ℕ, zero, suc, ◌+◌, ◌-◌, ◌*◌, ◌/◌, ◌%◌, ◌<◌, ◌≤◌, Bool, true, false, cond, List, [], ◌∷◌, ◌++◌, length, map, take, drop, get_or, sym, refl, ap, ◌∙◌, subst, arith, Option, Some, None, append_assoc, sum}
use Rattle.std.specs.Prelude.{is_some}
use Rattle.std.specs.List.{AllByRecursion, flat_map, range_with_len, position_or_len}
use Rattle.std.proofs.lemmas.List.{length-append, length-map, get_or-map}
use Rattle.std.proofs.lemmas.List.FromFn.{length-map-range_with_len, get_or-map-range_with_len}
use Rattle.amr_bits.specs.Bits.{nat, number, bits_of, bit_at, bits_at, part, octets_for}
use Rattle.amr_bits.specs.Layout.{Mark, fixed, free, padded}
use Rattle.amr_bits.proofs.Lists.{all_get}
use Rattle.amr_frame.specs.declared.codec.Codec.{Codec}
use Rattle.amr_frame.specs.declared.profile.Profile.{Profile}
use Rattle.amr_frame.specs.Frames.{Frame, IsFrame, no_data}
use Rattle.amr_frame.specs.Profiles.{group_bound}
use Rattle.amr_frame.specs.Tables.{bits_in, octets_in}
use Rattle.spec_payload.specs.Grammar.{IsPayload, table, octet_at, interleaving_octet, layout, aligned_layout}
use Rattle.spec_payload.specs.Reading.{types, frame_at, frame_bit, value_at, checks_at, checks_start, checks_count, payload_refusal, need, is_place, ill, ilp}
use Rattle.spec_payload.specs.RobustOrder.{place, order}
use Rattle.spec_payload.specs.Values.{Value, FitsGroup, octet_counts}
use Rattle.payload_laws.proofs.Counts.{types_of, counts_are, checks_are}
use Rattle.payload_laws.proofs.Entries.{more_after, frame_k}
use Rattle.payload_laws.proofs.Formats.{aligned}
use Rattle.payload_laws.proofs.Marks.{number_is, length-bits_of}
use Rattle.payload_laws.proofs.Orders.{length-order, is_octet, is_met}
use Rattle.payload_laws.proofs.Pieces.{Stands, stands_at, both_stand, parts_stand, whole_stands, fits_whole, fixed_stands, fixed_is, free_stands, pieces_stand, pieces_long, octets_bits, part_long, octet_stands}
use Rattle.payload_laws.proofs.Refusing.{InGroup, InTable, not_refused}
use Rattle.payload_laws.proofs.Rules.{good}
use Rattle.payload_laws.proofs.Tables.{four_at, entry_says, entry_stands, behind_table, entry_of, table_stands}
use Rattle.payload_laws.proofs.Valued.{length_types, type_is, types_back, value_read}

-- how many octets stand before the table
abbrev heads : Option ℕ → ℕ
heads group = cond (is_some group) 2 1

head_bits_are : (group : Option ℕ) → cond (is_some group) 16 8 ≡ 8 * heads group
head_bits_are None = refl
head_bits_are (Some most) = refl

length-group : (group : Option ℕ) (v : Value)
    → 8 + length (interleaving_octet group v) ≡ 8 * heads group
length-group None v = refl
length-group (Some most) v = refl

-- where the CRCs begin, or the octets of the frames
checks_begin : (group : Option ℕ) (n : ℕ)
    → (cond (is_some group) 16 8 + n * 8) / 8 ≡ heads group + n
checks_begin group n = let h = head_bits_are group in omega arith

-- the octets of the frames, in the order of the format
abbrev behind : Bool → List Frame → List Mark
behind sorting fs = flat_map (octet_at fs) (order sorting (octet_counts fs))

-- the parts of a payload behind the octet with the request
abbrev tail : Bool → Value → List ℕ → List Mark
tail sorting v checks = table 2 v.frames ++ (fixed (bits_of checks) ++ behind sorting v.frames)

six : (a b c d e f : List Mark) → a ++ b ++ c ++ d ++ e ++ f ≡ (a ++ b) ++ (c ++ (d ++ (e ++ f)))
six a b c d e f = simp append_assoc

-- how many places the octets of the frames are
length-behind : (sorting : Bool) (fs : List Frame)
    → length (behind sorting fs) ≡ 8 * sum (octet_counts fs)
length-behind sorting fs =
    let counts = octet_counts fs in
    let size = λ (f : Frame). octets_for (length f.bits) in
    let d = place 0 0 in
    let lc = length-map fs size in
    let each = λ (i : ℕ) (l : i < length (order sorting counts)).
    let x = get_or (order sorting counts) i d in
    let is = is_octet sorting counts i d l in
    let a = is.0 in
    part_long (frame_k fs x.frame).bits x.octet (subst (λ z. x.octet < z) (get_or-map size fs x.frame no_data 0 (omega arith)) is.1) in
    pieces_long (octet_at fs) (order sorting counts) d each ∙ ap (λ z. 8 * z) (length-order sorting counts)

-- the table of contents has eight bits for each entry
next : (start k : ℕ) → start + suc k * 8 ≡ start + k * 8 + (6 + 2)
next start k = omega arith

-- how many places a payload has
length-layout : (p : Profile) (v : Value) (checks octets : List ℕ)
    → length (aligned_layout p v checks) ≡ 8 * (heads p.interleaving + length v.frames + length checks + sum (octet_counts v.frames))
length-layout p v checks octets =
    let head = fixed (nat 4 v.cmr) ++ free 4 in
    let group = interleaving_octet p.interleaving v in
    let toc = table 2 v.frames in
    let crcs = fixed (bits_of checks) in
    let rest = behind p.sorting v.frames in
    let a = length-append head (group ++ tail p.sorting v checks) in
    let b = length-append group (tail p.sorting v checks) in
    let c = length-append toc (crcs ++ rest) in
    let d = length-append crcs rest in
    let g = length-group p.interleaving v in
    let t = behind_table octets 2 v.frames (λ j. 0 + j * 8) (next 0) in
    let k : length crcs ≡ 8 * length checks = length-map (bits_of checks) Some ∙ length-bits_of checks in
    let r = length-behind p.sorting v.frames in
    let h : length head ≡ 8 = refl in
    ap length (six (fixed (nat 4 v.cmr)) (free 4) group toc crcs rest) ∙ omega arith

-- what the interleaving octet says, where there is one
group_says : (group : Option ℕ) (v : Value) (octets : List ℕ) (blocks most : ℕ)
    → FitsGroup (group_bound group) blocks v → Stands octets 8 (interleaving_octet group v)
    → 2 ≤ length octets → group_bound group ≡ Some most → InGroup v octets
group_says None v octets blocks most g h w e = absurd cc
group_says (Some bound) v octets blocks most g h w e =
    let all = fixed_is octets (nat 4 (v.stride - 1) ++ nat 4 v.index) 8 h in
    let a = g.0 in let b = g.1 in let c = g.2 in
    let less : ill octets ≡ v.stride - 1 = ap (λ (t : List Bool). number (take 4 t)) all ∙ number_is 4 (v.stride - 1) (omega arith) in
    record {
      whole = w;
      stride = omega arith;
      index = ap (λ (t : List Bool). number (take 4 (drop 4 t))) all ∙ number_is 4 v.index (omega arith);
    }

-- and that it stands where it is read
group_stands : (group : Option ℕ) (v : Value) (octets : List ℕ)
    → v.stride ≡ cond (is_some group) (ill octets + 1) 1
    → v.index ≡ cond (is_some group) (ilp octets) 0 → Stands octets 8 (interleaving_octet group v)
group_stands None v octets s i = refl
group_stands (Some most) v octets s i =
    let less : v.stride - 1 ≡ ill octets = omega arith in
    let a : nat 4 (v.stride - 1) ≡ bits_at octets 8 4 = ap (nat 4) less ∙ four_at octets 8 in
    let b : nat 4 v.index ≡ bits_at octets 12 4 = ap (nat 4) i ∙ four_at octets 12 in
    fixed_stands octets (nat 4 (v.stride - 1) ++ nat 4 v.index) 8 8 (λ j. a j ++ b j)

-- an octet at any place, and some that stand behind one another
octet_below : (octets : List ℕ) (k : ℕ) → AllByRecursion (λ o. o < 256) octets
    → get_or octets k 0 < 256
octet_below [] k h = omega arith
octet_below (o ∷ octets) zero h = h.0
octet_below (o ∷ octets) (suc k) h = octet_below octets k h.1

pub taken_below : (octets : List ℕ) (c a n : ℕ) → AllByRecursion (λ o. o < 256) octets
    → AllByRecursion (λ o. o < 256) (map (λ k. get_or octets (c + k) 0) (range_with_len a n))
taken_below octets c a zero h = tt
taken_below octets c a (suc n) h = (octet_below octets (c + a) h, taken_below octets c (a + 1) n h)

module _ (codec : Codec) (c : ℕ) (crc sorting : Bool) (group : Option ℕ) (m : ℕ) (strict : Bool) (modes : ℕ) (octets : List ℕ) (some : 1 ≤ c) where
  -- the format, and where its table begins, in bits
  abbrev p : Profile
  p = aligned codec c crc sorting group m strict modes

  abbrev start : ℕ
  start = cond (is_some group) 16 8

  -- what is in the grammar has its table in the octets
  in_table : (v : Value) (checks : List ℕ) → IsPayload p v checks octets → InTable p v octets
  in_table v checks h =
      let fs = v.frames in
      let fts = types_of fs in
      let octet = interleaving_octet group v in
      let w = whole_stands octets (layout p v checks) h.bits in
      let all : length (layout p v checks) ≡ 8 * (heads group + length fs + length checks + sum (octet_counts fs)) = length-layout p v checks octets in
      let front = parts_stand octets (fixed (nat 4 v.cmr) ++ free 4) (octet ++ tail sorting v checks) 0 (subst (λ t. Stands octets 0 t) (six (fixed (nat 4 v.cmr)) (free 4) octet (table 2 fs) (fixed (bits_of checks)) (behind sorting fs)) w.0) in
      let grouped = parts_stand octets octet (tail sorting v checks) 8 front.1 in
      let lg = length-group group v in
      let hb = head_bits_are group in
      let rest = stands_at octets (tail sorting v checks) (8 + length octet) (start + 0 * 8) (omega arith) grouped.1 in
      let toc = parts_stand octets (table 2 fs) (fixed (bits_of checks) ++ behind sorting fs) (start + 0 * 8) rest in
      let says = λ (k : ℕ) (l : k < length fs). entry_says octets 2 (frame_k fs k) (more_after fs k) (start + k * 8) (all_get (IsFrame codec) fs k no_data h.value.frames l).type
      (entry_of octets 2 fs (λ j. start + j * 8) (next start) toc.0 k l) in
      let total = w.1 in
      let some_heads = heads_some group in
      let l : length fts ≡ length fs = length-map fs (λ (f : Frame). f.ft) in
      let b : checks_start p fts ≡ heads group + length fts = checks_begin group (length fts) in
      let k : length checks ≡ checks_count p fts = h.as_many ∙ checks_are p fs h.value.frames in
      let s : sum (octet_counts fs) ≡ sum (map (octets_in codec) fts) = ap sum (counts_are codec fs h.value.frames) in
      let e : need p fts ≡ checks_start p fts + checks_count p fts + sum (map (octets_in codec) fts) = refl in
      record {
        some = omega arith;
        more = λ k x. (says k x).0;
        type = λ k x. (says k x).1;
        room = omega arith;
        groups = λ most x. group_says group v octets h.value.blocks most h.value.group grouped.0 (let two = two_heads group most x in omega arith) x;
        exact = e ∙ omega arith;
      }
    where
      heads_some : (o : Option ℕ) → 1 ≤ heads o
      heads_some None = omega arith
      heads_some (Some bound) = omega arith

      two_heads : (o : Option ℕ) (most : ℕ) → group_bound o ≡ Some most → 2 ≤ heads o
      two_heads None most e = absurd cc
      two_heads (Some bound) most e = omega arith

  -- what is in the grammar isn't refused
  pub accepted : (v : Value) (checks : List ℕ) → IsPayload p v checks octets
      → payload_refusal p octets ≡ None
  accepted v checks h = not_refused p v octets h.value some (in_table v checks h)

  -- where the octets of the frames begin
  abbrev body : List ℕ → ℕ
  body fts = checks_start p fts + checks_count p fts

  -- an octet of a frame has eight places, and stands where it is read
  place_stands : (fts : List ℕ) (k o j : ℕ) → k < length fts
      → o < octets_in codec (get_or fts k 0)
      → position_or_len (is_place o k) (order sorting (map (octets_in codec) fts)) ≡ j
      → (let piece = octet_at (map (frame_at p octets fts) (range_with_len 0 (length fts))) (place o k) in (length piece ≡ 8) × Stands octets (8 * (body fts + j)) piece)
  place_stands fts k o j lk lo e =
      let size = bits_in codec (get_or fts k 0) in
      let bits = map (frame_bit p octets fts k) (range_with_len 0 size) in
      let here : frame_at p octets fts k ≡ get_or (map (frame_at p octets fts) (range_with_len 0 (length fts))) k no_data = sym (get_or-map-range_with_len (frame_at p octets fts) 0 (length fts) k k no_data lk (omega arith)) in
      let long : length bits ≡ size = length-map-range_with_len (frame_bit p octets fts k) 0 size in
      let inside : o < octets_for (length bits) = subst (λ z. o < octets_for z) (sym long) lo in
      let each = λ (r : ℕ) (l : r < 8) (h : 8 * o + r < length bits).
      let i = 8 * o + r in
      let whole : i / 8 ≡ o = omega arith in
      let rest : i % 8 ≡ r = omega arith in
      let at : position_or_len (is_place (i / 8) k) (order sorting (map (octets_in codec) fts)) ≡ j = ap (λ x. position_or_len (is_place x k) (order sorting (map (octets_in codec) fts))) whole ∙ e in
      let bit : 8 * (body fts + position_or_len (is_place (i / 8) k) (order sorting (map (octets_in codec) fts))) + i % 8 ≡ 8 * (body fts + j) + r = λ z. 8 * (body fts + at z) + rest z in
      get_or-map-range_with_len (frame_bit p octets fts k) 0 size i i false (omega arith) (omega arith) ∙ ap (bit_at octets) bit in
      subst (λ (f : Frame). (length (part (8 * o) 8 (padded (fixed f.bits))) ≡ 8) × Stands octets (8 * (body fts + j)) (part (8 * o) 8 (padded (fixed f.bits)))) here
      (part_long bits o inside, octet_stands octets bits o (8 * (body fts + j)) inside each)

  -- the octets of all frames
  body_stands : (fts : List ℕ)
      → (let frames = map (frame_at p octets fts) (range_with_len 0 (length fts)) in octet_counts frames ≡ map (octets_in codec) fts → Stands octets (8 * body fts) (behind sorting frames))
  body_stands fts e =
      let frames = map (frame_at p octets fts) (range_with_len 0 (length fts)) in
      let lens = map (octets_in codec) fts in
      let count = length-map fts (octets_in codec) in
      let d = place 0 0 in
      let each = λ (i : ℕ) (l : i < length (order sorting lens)).
      let x = get_or (order sorting lens) i d in
      let is = is_octet sorting lens i d l in
      let known : x.frame < length fts = let a = is.0 in omega arith in
      place_stands fts x.frame x.octet i known (subst (λ z. x.octet < z) (get_or-map (octets_in codec) fts x.frame 0 0 known) is.1) (is_met sorting lens i d l) in
      subst (λ z. Stands octets (8 * body fts) (flat_map (octet_at frames) (order sorting z))) (sym e)
      (pieces_stand octets (octet_at frames) (order sorting lens) d (8 * body fts) (λ i l. (each i l).0)
      (λ i l. let x = get_or (order sorting lens) i d in stands_at octets (octet_at frames x) (8 * (body fts + i)) (8 * body fts + 8 * i) (omega arith) (each i l).1))

  -- what isn't refused is in the grammar, where the CRCs are octets
  pub spelled : AllByRecursion (λ o. o < 256) (checks_at p octets)
      → payload_refusal p octets ≡ None
      → IsPayload p (value_at p octets) (checks_at p octets) octets
  spelled small none =
      let g = good p octets none in
      let v = value_at p octets in
      let is = value_read p octets some g in
      let checks = checks_at p octets in
      let fts = types p octets in
      let n = length fts in
      let F = frame_at p octets fts in
      let len = length_types p octets in
      let first = checks_start p fts in
      let count = checks_count p fts in
      let octet = interleaving_octet group v in
      let back : types_of v.frames ≡ fts = types_back p octets fts in
      let counts : octet_counts v.frames ≡ map (octets_in codec) fts = counts_are codec v.frames is.frames ∙ ap (map (octets_in codec)) back in
      let frames : length v.frames ≡ n = length-map-range_with_len F 0 n in
      let many : length checks ≡ count = length-map-range_with_len (λ k. get_or octets (first + k) 0) 0 count in
      let begins : first ≡ heads group + n = checks_begin group n in
      let hb = head_bits_are group in
      let lg = length-group group v in
      let t = behind_table octets 2 v.frames (λ j. start + j * 8) (next start) in
      let lc : length (fixed (bits_of checks)) ≡ 8 * length checks = length-map (bits_of checks) Some ∙ length-bits_of checks in
      let exact : first + count + sum (map (octets_in codec) fts) ≡ length octets = g.exact in
      let total : sum (octet_counts v.frames) ≡ sum (map (octets_in codec) fts) = ap sum counts in
      let head : Stands octets 0 (fixed (nat 4 v.cmr) ++ free 4) = both_stand octets (fixed (nat 4 v.cmr)) (free 4) 0 4 refl (fixed_stands octets (nat 4 v.cmr) 0 4 (four_at octets 0)) (free_stands octets 4 4) in
      let toc : Stands octets (start + 0 * 8) (table 2 v.frames) = table_stands octets 2 F (λ j. start + j * 8) (next start) 0 n
      (λ k l x. entry_stands p octets 2 fts k true (type_is p octets k (omega arith)) (g.goes k (omega arith)))
      (λ k x. entry_stands p octets 2 fts k false (type_is p octets k (omega arith)) (g.ends k (omega arith))) in
      let crcs : Stands octets (8 * first) (fixed (bits_of checks)) = fixed_stands octets (bits_of checks) (8 * first) (8 * count) (octets_bits octets first 0 count ∙ ap (λ z. bits_at octets z (8 * count)) (omega arith)) in
      let j1 = both_stand octets (fixed (bits_of checks)) (behind sorting v.frames) (8 * first) (8 * (first + count)) (omega arith) crcs (body_stands fts counts) in
      let j2 = both_stand octets (table 2 v.frames) (fixed (bits_of checks) ++ behind sorting v.frames) (start + 0 * 8) (8 * first) (omega arith) toc j1 in
      let j3 = both_stand octets octet (tail sorting v checks) 8 (start + 0 * 8) (omega arith) (group_stands group v octets refl refl) j2 in
      let j4 = both_stand octets (fixed (nat 4 v.cmr) ++ free 4) (octet ++ tail sorting v checks) 0 8 refl head j3 in
      let six_is = six (fixed (nat 4 v.cmr)) (free 4) octet (table 2 v.frames) (fixed (bits_of checks)) (behind sorting v.frames) in
      record {
        value = is;
        as_many = many ∙ ap (checks_count p) (sym back) ∙ sym (checks_are p v.frames is.frames);
        are_octets = small;
        bits = fits_whole octets (layout p v checks) (length-layout p v checks octets ∙ omega arith) (subst (λ t. Stands octets 0 t) (sym six_is) j4);
      }
