-- The canonical octets of a bandwidth-efficient payload.
use Rattle.std.proofs.Common.{◌≡◌, ℕ, ◌+◌, ◌*◌, ◌≤◌, Bool, false, cond, List, [], ◌∷◌, ◌++◌, length, map, take, replicate, sym, ap, ◌∙◌, arith}
use Rattle.std.specs.List.{AllByRecursion}
use Rattle.std.proofs.lemmas.List.{length-append, length-map, take_all, append-nil}
use Rattle.amr_bits.specs.Bits.{bits_at, filled, octets_for}
use Rattle.amr_bits.specs.Layout.{Mark, padded, settled}
use Rattle.amr_bits.proofs.Filled.{bits-whole, filled-front, filled-lt, gap, gap_fills, length-filled}
use Rattle.amr_be.specs.Parts.{body_part}
use Rattle.amr_frame.specs.declared.codec.Codec.{Codec}
use Rattle.amr_frame.specs.declared.profile.Profile.{Profile}
use Rattle.amr_frame.specs.Cells.{frame_of}
use Rattle.amr_frame.specs.Frames.{Frame, IsFrame}
use Rattle.amr_toc.specs.declared.payload.Payload.{Payload}
use Rattle.amr_toc.specs.Entries.{table_part}
use Rattle.amr_toc.specs.Payloads.{CarriesInto, meant}
use Rattle.amr_toc.proofs.Settled.{settled_fixed, settled_padded}
use Rattle.amr_toc.proofs.Sizes.{most_bits}
use Rattle.payload_laws.proofs.Entries.{table_bits, table_fixed}
use Rattle.payload_laws.proofs.Whole.{body, whole, marks_fixed, length-whole}
use Rattle.spec_payload.specs.Grammar.{text, layout, packed_layout, aligned_layout, check_of, checked}
use Rattle.spec_payload.specs.Values.{Value}

-- zeros up to a whole octet are what octets are filled with
pub filled_whole : (bits : List Bool) → filled (bits ++ replicate (gap bits) false) ≡ filled bits
filled_whole bits =
    let n = octets_for (length bits) in
    let octets = filled bits in
    let l = length-filled bits in
    let size : length bits + gap bits ≡ 8 * n = gap_fills bits in
    let all : bits_at octets 0 (8 * n) ≡ bits ++ replicate (gap bits) false = ap (bits_at octets 0) (sym size) ∙ bits-whole bits (gap bits) size in
    ap filled (sym all ∙ sym (append-nil (bits_at octets 0 (8 * n))))
    ∙ filled-front octets n [] (omega arith) (filled-lt bits)
    ∙ append-nil (take n octets) ∙ take_all n octets (omega arith)

-- the bits that are written
pub settled_layout : (p : Profile) (v : Value) (checks : List ℕ) → p.octet_aligned ≡ false → map settled (layout p v checks) ≡ whole v ++ replicate (gap (whole v)) false
settled_layout p v checks packed =
    ap (λ z. map settled (cond z (aligned_layout p v checks) (packed_layout v))) packed
    ∙ ap (λ (m : List Mark). map settled (padded m)) (marks_fixed v)
    ∙ settled_padded (whole v)

-- the canonical octets are those that the bits of the value fill
pub text_is : (p : Profile) (v : Value) → p.octet_aligned ≡ false → text p v ≡ filled (whole v)
text_is p v packed = ap filled (settled_layout p v (map (check_of p) (checked p v.frames)) packed) ∙ filled_whole (whole v)

-- the table as it is written
pub table_is : (frames : List Frame) → table_part 6 frames ≡ table_bits frames
table_is frames = ap (map settled) (table_fixed frames) ∙ settled_fixed (table_bits frames)

-- how many octets a value has
pub length-text : (p : Profile) (v : Value) → p.octet_aligned ≡ false → length (text p v) ≡ octets_for (4 + 6 * length v.frames + length (body_part v.frames))
length-text p v packed = ap length (text_is p v packed) ∙ length-filled (whole v) ∙ ap octets_for (length-whole v)

-- a payload fits the octets that it is to be written into
pub has_room : (p : Profile) (payload : Payload) (out : List ℕ) → p.octet_aligned ≡ false → CarriesInto p payload out
    → 4 + 6 * length payload.cells.now + length (body_part (meant payload).frames) ≤ 8 * length out
has_room p payload out packed h =
    let all = length-text p (meant payload) packed in
    let size = length-map payload.cells.now frame_of in
    let room = h.size in
    omega arith

-- frames of a codec have at most 477 bits each
pub body_most : (codec : Codec) (frames : List Frame) → AllByRecursion (IsFrame codec) frames → length (body_part frames) ≤ 477 * length frames
body_most codec [] a = omega arith
body_most codec (f ∷ fs) a =
    let rest = body_most codec fs a.1 in
    let size = a.0.size in
    let most = most_bits codec f.ft in
    omega (arith, length-append f.bits (body fs))
