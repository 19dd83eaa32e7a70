-- The bits of a bandwidth-efficient payload, and how many there are.
use Rattle.std.proofs.Common.{◌≡◌, ◌+◌, ◌*◌, Bool, List, [], ◌∷◌, ◌++◌, length, map, sym, refl, ap, ◌∙◌, arith, Some, sum}
use Rattle.std.specs.List.{flat_map, AllByRecursion}
use Rattle.std.proofs.lemmas.List.{length-append, map-append}
use Rattle.std.proofs.lemmas.List.Sums.{sum_by-cons}
use Rattle.amr_frame.specs.declared.codec.Codec.{Codec}
use Rattle.amr_bits.specs.Bits.{nat}
use Rattle.amr_bits.specs.Layout.{Mark, fixed}
use Rattle.amr_bits.proofs.Numbers.{length-nat}
use Rattle.amr_frame.specs.Frames.{Frame, IsFrame}
use Rattle.amr_frame.specs.Tables.{bits_in}
use Rattle.spec_payload.specs.Grammar.{table}
use Rattle.spec_payload.specs.Values.{Value}
use Rattle.payload_laws.proofs.Entries.{table_bits, table_fixed, length-table}

-- the bits of frames, one behind the other
abbrev pub body : List Frame → List Bool
body fs = flat_map (λ (f : Frame). f.bits) fs

-- the bits of frames are fixed
body_fixed : (fs : List Frame) → flat_map (λ (f : Frame). fixed f.bits) fs ≡ fixed (body fs)
body_fixed [] = refl
body_fixed (f ∷ fs) = ap (λ (t : List Mark). fixed f.bits ++ t) (body_fixed fs) ∙ sym (map-append Some f.bits (body fs))

-- the bits of a payload but for the free ones
abbrev pub whole : Value → List Bool
whole v = nat 4 v.cmr ++ (table_bits v.frames ++ body v.frames)

-- all but the free bits is fixed
pub marks_fixed : (v : Value)
    → fixed (nat 4 v.cmr) ++ table 0 v.frames ++ flat_map (λ (f : Frame). fixed f.bits) v.frames ≡ fixed (whole v)
marks_fixed v = rw (table_fixed v.frames, body_fixed v.frames) (ap (λ (t : List Mark). fixed (nat 4 v.cmr) ++ t) (sym (map-append Some (table_bits v.frames) (body v.frames))))

-- how many bits all frames have
pub length-body : (codec : Codec) (gs : List Frame) → AllByRecursion (IsFrame codec) gs
    → length (body gs) ≡ sum (map (bits_in codec) (map (λ (f : Frame). f.ft) gs))
length-body codec [] a = refl
length-body codec (f ∷ gs) a =
    let e = length-body codec gs a.1 in
    length-append f.bits (body gs) ∙ ap (λ n. n + length (body gs)) a.0.size ∙ ap (λ n. bits_in codec f.ft + n) e ∙ sym (sum_by-cons (λ x. x) (bits_in codec f.ft) (map (bits_in codec) (map (λ (x : Frame). x.ft) gs)))

-- how many bits are not free
pub length-whole : (v : Value) → length (whole v) ≡ 4 + 6 * length v.frames + length (body v.frames)
length-whole v =
    let t = table_bits v.frames in
    let b = body v.frames in
    omega (arith, length-append (nat 4 v.cmr) (t ++ b), length-append t b, length-nat 4 v.cmr, length-table v.frames)
