-- The canonical octets of a payload that is read: how many they are, and in an octet-aligned payload, part by part.
use Rattle.std.proofs.Common.{◌≡◌, ℕ, ◌+◌, ◌*◌, ◌<◌, ◌≤◌, Bool, true, false, cond, List, [], ◌∷◌, ◌++◌, length, get_or, sym, refl, ap, ◌∙◌, arith, Option, Some, None}
use Rattle.std.specs.Prelude.{flat_map, ◌&&◌}
use Rattle.std.specs.List.{AllByRecursion, range_with_len}
use Rattle.std.proofs.lemmas.List.{length-map, length-append}
use Rattle.amr_bits.specs.Bits.{AreOctets, nat, bits_of, filled}
use Rattle.amr_bits.specs.Layout.{Mark, fixed, free, settled}
use Rattle.amr_bits.proofs.Filled.{filled-lt}
use Rattle.amr_bits.proofs.Lists.{all_append, all_by}
use Rattle.amr_frame.specs.declared.codec.Codec.{Codec}
use Rattle.amr_frame.specs.declared.profile.Profile.{Profile}
use Rattle.amr_frame.specs.Frames.{Frame, IsFrame}
use Rattle.amr_frame.specs.Profiles.{group_bound}
use Rattle.amr_oa.proofs.Canonical.{text_is, filled_octets}
use Rattle.amr_oa.specs.Written.{check_part, checks_part, frame_part, octet_part, row_part, longest_of, body_part}
use Rattle.amr_payload.specs.Octets.{interleaving_part, header_part, table_part, written_as}
use Rattle.amr_payload.proofs.Again.{bits_are}
use Rattle.amr_payload.proofs.OctetText.{written_bits_are}
use Rattle.amr_payload.specs.Checks.{own_checks}
use Rattle.payload_laws.proofs.Checks.{checks_below}
use Rattle.payload_laws.proofs.Marks.{length-bits_of, fits_length}
use Rattle.spec_payload.specs.Grammar.{IsPayload, layout, aligned_layout, packed_layout, interleaving_octet, table, octet_at, text, check_of, checked}
use Rattle.spec_payload.specs.RobustOrder.{order}
use Rattle.spec_payload.specs.Values.{Value, IsValue, FitsGroup, has_bits, octet_counts}

-- two layouts that differ in a part of the same length
long_after : (a b m : List Mark) → length a ≡ length b → length (a ++ m) ≡ length (b ++ m)
long_after a b m e = omega (arith, e, length-append a m, length-append b m)

longer : (a b c d e f g : List Mark) → length e ≡ length f → length (a ++ b ++ c ++ d ++ e ++ g) ≡ length (a ++ b ++ c ++ d ++ f ++ g)
longer a b c d e f g l =
    long_after (a ++ b ++ c ++ d ++ e) (a ++ b ++ c ++ d ++ f) g
    (omega (arith, l, length-append (a ++ b ++ c ++ d) e, length-append (a ++ b ++ c ++ d) f))

-- layouts with as many CRCs are as long
layouts_long : (p : Profile) (v : Value) (cs ds : List ℕ) → length cs ≡ length ds → length (layout p v cs) ≡ length (layout p v ds)
layouts_long p v cs ds e = by p.octet_aligned
  where
    body : List Mark
    body = flat_map (octet_at v.frames) (order p.sorting (octet_counts v.frames))

    fixed_long : length (fixed (bits_of cs)) ≡ length (fixed (bits_of ds))
    fixed_long =
        let c = length-map (bits_of cs) Some in
        let d = length-map (bits_of ds) Some in
        let f = length-bits_of cs in
        let g = length-bits_of ds in
        omega arith

    by : (z : Bool) → length (cond z (aligned_layout p v cs) (packed_layout v)) ≡ length (cond z (aligned_layout p v ds) (packed_layout v))
    by false = refl
    by true = longer (fixed (nat 4 v.cmr)) (free 4) (interleaving_octet p.interleaving v) (table 2 v.frames) (fixed (bits_of cs)) (fixed (bits_of ds)) body fixed_long

-- a payload is as long as the canonical one of its value
pub same_long : (p : Profile) (v : Value) (cs octets : List ℕ) → IsPayload p v cs octets → length (text p v) ≡ length octets
same_long p v cs octets g =
    let a = length-bits_of (text p v) in
    let b = length-bits_of octets in
    let m = ap length (bits_are p v g.value) ∙ length-map (layout p v (own_checks p v)) settled in
    let n = fits_length (layout p v cs) (bits_of octets) g.bits in
    let l = layouts_long p v cs (own_checks p v) (g.as_many ∙ sym (length-map (checked p v.frames) (check_of p))) in
    omega arith

-- what is written for each of some is octets
each_small : {X : Type 0} (F : X → List ℕ) (xs : List X) → ((x : X) → AreOctets (F x)) → AreOctets (flat_map F xs)
each_small F [] h = tt
each_small F (x ∷ xs) h = all_append (λ (o : ℕ). o < 256) (F x) (flat_map F xs) (h x) (each_small F xs h)

header_small : (o : Option ℕ) (blocks : ℕ) (v : Value) → v.cmr < 16 → FitsGroup (group_bound o) blocks v → AreOctets ((16 * v.cmr) ∷ interleaving_part o v)
header_small None blocks v c g = (omega arith, tt)
header_small (Some most) blocks v c g =
    let a = g.1 in
    let b = g.2 in
    (omega arith, (omega arith, tt))

entry_small : (more q : Bool) (ft : ℕ) → ft ≤ 15 → 128 * cond more 1 0 + 8 * ft + 4 * cond q 1 0 < 256
entry_small true true ft h = omega arith
entry_small true false ft h = omega arith
entry_small false true ft h = omega arith
entry_small false false ft h = omega arith

table_small : (codec : Codec) (frames : List Frame) → AllByRecursion (IsFrame codec) frames → AreOctets (table_part frames)
table_small codec [] a = tt
table_small codec (f ∷ []) a = (entry_small false f.q f.ft a.0.type, tt)
table_small codec (f ∷ g ∷ fs) a = (entry_small true f.q f.ft a.0.type, table_small codec (g ∷ fs) a.1)

check_small : (p : Profile) (f : Frame) → AreOctets (check_part p f)
check_small p f = by (p.crc && has_bits f)
  where
    by : (z : Bool) → AreOctets (cond z (check_of p f ∷ []) [])
    by true = ((checks_below p (f ∷ [])).0, tt)
    by false = tt

frame_small : (f : Frame) → AreOctets (frame_part f)
frame_small f = all_by (λ (o : ℕ). o < 256) (filled f.bits) 0 (λ i l. filled-lt f.bits i)

octet_small : (o : ℕ) (f : Frame) (z : Bool) → AreOctets (cond z (get_or (filled f.bits) o 0 ∷ []) [])
octet_small o f true = (filled-lt f.bits o, tt)
octet_small o f false = tt

body_small : (sorting : Bool) (frames : List Frame) → AreOctets (body_part sorting frames)
body_small false frames = each_small frame_part frames frame_small
body_small true frames = each_small (row_part frames) (range_with_len 0 (longest_of frames)) (λ o. each_small (octet_part o) frames (λ f. octet_small o f _))

written_small : (p : Profile) (v : Value) → IsValue p v → AreOctets (written_as p v)
written_small p v h =
    let small = λ (o : ℕ). o < 256 in
    let table = all_append small (header_part p v) (table_part v.frames) (header_small p.interleaving h.blocks v h.cmr h.group) (table_small p.codec v.frames h.frames) in
    let checks = all_append small (header_part p v ++ table_part v.frames) (checks_part p v.frames) table (each_small (check_part p) v.frames (check_small p)) in
    all_append small (header_part p v ++ table_part v.frames ++ checks_part p v.frames) (body_part p.sorting v.frames) checks (body_small p.sorting v.frames)

-- the canonical octets are those that are written, part by part
pub text_is_written : (p : Profile) (v : Value) → p.octet_aligned ≡ true → IsValue p v → text p v ≡ written_as p v
text_is_written p v aligned h =
    text_is p v aligned ∙ ap filled (written_bits_are p v h) ∙ filled_octets (written_as p v) (written_small p v h)
