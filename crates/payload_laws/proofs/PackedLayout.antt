-- Bandwidth-efficient payloads (RFC 4867, 4.3): what is in the grammar isn't refused, and what isn't refused is in the grammar.
use Rattle.std.proofs.Common.{◌≡◌, ℕ, zero, suc, ◌+◌, ◌-◌, ◌*◌, ◌<◌, ◌≤◌, Bool, true, false, List, ◌++◌, length, map, take, get_or, sym, refl, ap, ◌∙◌, subst, arith, Some, None, append_assoc, sum}
use Rattle.std.specs.List.{AllByRecursion, flat_map, range_with_len}
use Rattle.std.proofs.lemmas.List.{length-map}
use Rattle.std.proofs.lemmas.List.FromFn.{length-map-range_with_len}
use Rattle.amr_bits.specs.Bits.{nat, bit_at, bits_at, octets_for}
use Rattle.amr_bits.specs.Layout.{Mark, fixed, free, padded}
use Rattle.amr_bits.proofs.Lists.{all_get, sum-map-more}
use Rattle.amr_frame.specs.declared.codec.Codec.{Codec}
use Rattle.amr_frame.specs.declared.profile.Profile.{Profile}
use Rattle.amr_frame.specs.Frames.{Frame, IsFrame, no_data}
use Rattle.amr_frame.specs.Tables.{bits_in}
use Rattle.spec_payload.specs.Grammar.{IsPayload, table}
use Rattle.spec_payload.specs.Reading.{types, frame_at, frame_bit, value_at, checks_at, payload_refusal, need}
use Rattle.spec_payload.specs.Values.{Value}
use Rattle.payload_laws.proofs.Counts.{types_of}
use Rattle.payload_laws.proofs.Entries.{more_after, frame_k}
use Rattle.payload_laws.proofs.Formats.{plain}
use Rattle.payload_laws.proofs.Pieces.{Stands, both_stand, parts_stand, whole_stands, fits_whole, fixed_stands, free_stands, length-padded}
use Rattle.payload_laws.proofs.Ranges.{map_moved}
use Rattle.payload_laws.proofs.Refusing.{InTable, not_refused}
use Rattle.payload_laws.proofs.Rules.{good}
use Rattle.payload_laws.proofs.Tables.{entry_says, entry_stands, four_at, behind_table, entry_of, table_stands}
use Rattle.payload_laws.proofs.Valued.{length_types, type_is, types_back, value_read}
use Rattle.payload_laws.proofs.Whole.{whole, marks_fixed, length-body, length-whole}

-- the bits of the frames, each fixed
abbrev bodies : List Frame → List Mark
bodies fs = flat_map (λ (f : Frame). fixed f.bits) fs

-- the places of a payload but for those that fill its last octet
abbrev marks : Value → List Mark
marks v = fixed (nat 4 v.cmr) ++ table 0 v.frames ++ bodies v.frames

-- one part behind the other
parts : (v : Value) (r : List Mark)
    → marks v ++ r ≡ fixed (nat 4 v.cmr) ++ (table 0 v.frames ++ (bodies v.frames ++ r))
parts v r = simp append_assoc

-- how many places there are, by the types of the table
length-marks : (codec : Codec) (v : Value) → AllByRecursion (IsFrame codec) v.frames
    → length (marks v) ≡ 4 + length (types_of v.frames) * 6 + sum (map (bits_in codec) (types_of v.frames))
length-marks codec v a =
    let fts = types_of v.frames in
    let l : length fts ≡ length v.frames = length-map v.frames (λ (f : Frame). f.ft) in
    let b = length-body codec v.frames a in
    let w = length-whole v in
    ap length (marks_fixed v) ∙ length-map (whole v) Some ∙ omega arith

-- the table of contents begins behind four bits, and each entry has six
next : (k : ℕ) → 4 + suc k * 6 ≡ 4 + k * 6 + (6 + 0)
next k = omega arith

module _ (codec : Codec) (c m : ℕ) (strict : Bool) (modes : ℕ) (octets : List ℕ) (some : 1 ≤ c) where
  -- the format
  abbrev p : Profile
  p = plain codec c m strict modes

  -- what is in the grammar has its table in the octets
  in_table : (v : Value) (checks : List ℕ) → IsPayload p v checks octets → InTable p v octets
  in_table v checks h =
      let fs = v.frames in
      let fill = free (8 * octets_for (length (marks v)) - length (marks v)) in
      let w = whole_stands octets (padded (marks v)) h.bits in
      let rest = parts_stand octets (fixed (nat 4 v.cmr)) (table 0 fs ++ (bodies fs ++ fill)) 0 (subst (λ t. Stands octets 0 t) (parts v fill) w.0) in
      let toc = parts_stand octets (table 0 fs) (bodies fs ++ fill) 4 rest.1 in
      let says = λ (k : ℕ) (l : k < length fs). entry_says octets 0 (frame_k fs k) (more_after fs k) (4 + k * 6) (all_get (IsFrame codec) fs k no_data h.value.frames l).type
      (entry_of octets 0 fs (λ j. 4 + j * 6) next toc.0 k l) in
      let long = length-marks codec v h.value.frames in
      let all = length-padded (marks v) in
      let l : length (types_of fs) ≡ length fs = length-map fs (λ (f : Frame). f.ft) in
      let total = w.1 in
      let e : need p (types_of fs) ≡ octets_for (4 + length (types_of fs) * 6 + sum (map (bits_in codec) (types_of fs))) = refl in
      let exact : octets_for (length (marks v)) ≡ length octets = omega arith in
      record {
        some = omega arith;
        more = λ k x. (says k x).0;
        type = λ k x. (says k x).1;
        room = omega arith;
        groups = λ most x. absurd cc;
        exact = e ∙ ap octets_for (sym long) ∙ exact;
      }

  -- what is in the grammar isn't refused
  pub accepted : (v : Value) (checks : List ℕ) → IsPayload p v checks octets
      → payload_refusal p octets ≡ None
  accepted v checks h = not_refused p v octets h.value some (in_table v checks h)

  -- the bits of the frames before frame k
  abbrev sum_to : List ℕ → ℕ → ℕ
  sum_to fts k = sum (map (bits_in codec) (take k fts))

  -- the bits of the frames from frame a on stand behind those before them
  bodies_stand : (fts : List ℕ) (a b : ℕ) → a + b ≤ length fts
      → Stands octets (4 + length fts * 6 + sum_to fts a) (bodies (map (frame_at p octets fts) (range_with_len a b)))
  bodies_stand fts a zero l = refl
  bodies_stand fts a (suc b) l =
      let start = 4 + length fts * 6 in
      let size = bits_in codec (get_or fts a 0) in
      let bits = map (frame_bit p octets fts a) (range_with_len 0 size) in
      let here : bits ≡ bits_at octets (start + sum_to fts a) size = map_moved (frame_bit p octets fts a) (bit_at octets) 0 (start + sum_to fts a) size (λ k. ap (bit_at octets) (omega arith)) in
      let one = fixed_stands octets bits (start + sum_to fts a) size here in
      let long : length (fixed bits) ≡ size = length-map bits Some ∙ length-map-range_with_len (frame_bit p octets fts a) 0 size in
      let more = sum-map-more (bits_in codec) fts a (omega arith) in
      both_stand octets (fixed bits) (bodies (map (frame_at p octets fts) (range_with_len (a + 1) b))) (start + sum_to fts a) (start + sum_to fts (a + 1)) (omega arith) one (bodies_stand fts (a + 1) b (omega arith))

  -- what isn't refused is in the grammar
  pub spelled : payload_refusal p octets ≡ None
      → IsPayload p (value_at p octets) (checks_at p octets) octets
  spelled none =
      let g = good p octets none in
      let v = value_at p octets in
      let is = value_read p octets some g in
      let fts = types p octets in
      let n = length fts in
      let F = frame_at p octets fts in
      let len = length_types p octets in
      let head : Stands octets 0 (fixed (nat 4 v.cmr)) = fixed_stands octets (nat 4 v.cmr) 0 4 (four_at octets 0) in
      let toc : Stands octets 4 (table 0 v.frames) = table_stands octets 0 F (λ j. 4 + j * 6) next 0 n
      (λ k l x. entry_stands p octets 0 fts k true (type_is p octets k (omega arith)) (g.goes k (omega arith)))
      (λ k x. entry_stands p octets 0 fts k false (type_is p octets k (omega arith)) (g.ends k (omega arith))) in
      let bodies_at = bodies_stand fts 0 n (omega arith) in
      let back : types_of v.frames ≡ fts = types_back p octets fts in
      let frames : length v.frames ≡ n = length-map-range_with_len F 0 n in
      let behind = behind_table octets 0 v.frames (λ j. 4 + j * 6) next in
      let fill = free (8 * octets_for (length (marks v)) - length (marks v)) in
      let place : 4 + n * 6 + sum_to fts 0 ≡ 4 + length (table 0 v.frames) = omega arith in
      let filled = free_stands octets (8 * octets_for (length (marks v)) - length (marks v)) (4 + n * 6 + sum_to fts 0 + length (bodies v.frames)) in
      let j1 = both_stand octets (bodies v.frames) fill (4 + n * 6 + sum_to fts 0) (4 + n * 6 + sum_to fts 0 + length (bodies v.frames)) refl bodies_at filled in
      let j2 = both_stand octets (table 0 v.frames) (bodies v.frames ++ fill) 4 (4 + n * 6 + sum_to fts 0) place toc j1 in
      let j3 = both_stand octets (fixed (nat 4 v.cmr)) (table 0 v.frames ++ (bodies v.frames ++ fill)) 0 4 refl head j2 in
      let need_is : octets_for (length (marks v)) ≡ length octets = ap octets_for (length-marks codec v is.frames ∙ ap (λ ts. 4 + length ts * 6 + sum (map (bits_in codec) ts)) back) ∙ g.exact in
      record {
        value = is;
        as_many = refl;
        are_octets = tt;
        bits = fits_whole octets (padded (marks v)) (length-padded (marks v) ∙ ap (λ z. 8 * z) need_is) (subst (λ t. Stands octets 0 t) (sym (parts v fill)) j3);
      }
