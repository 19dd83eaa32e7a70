-- Frames and the types of their table: how many octets and how many CRCs there are.
use Rattle.std.proofs.Common.{◌≡◌, ℕ, Bool, true, false, cond, ltb, List, [], ◌∷◌, length, map, refl, ap, ◌∙◌}
use Rattle.std.specs.Prelude.{filter}
use Rattle.std.specs.List.{AllByRecursion}
use Rattle.amr_bits.specs.Bits.{octets_for}
use Rattle.amr_bits.proofs.Lists.{length-cond}
use Rattle.amr_frame.specs.declared.codec.Codec.{Codec}
use Rattle.amr_frame.specs.declared.profile.Profile.{Profile}
use Rattle.amr_frame.specs.Frames.{Frame, IsFrame}
use Rattle.amr_frame.specs.Tables.{bits_in, octets_in}
use Rattle.spec_payload.specs.Grammar.{checked}
use Rattle.spec_payload.specs.Reading.{checks_count}
use Rattle.spec_payload.specs.Values.{has_bits, octet_counts}

-- the types of frames
abbrev pub types_of : List Frame → List ℕ
types_of fs = map (λ (f : Frame). f.ft) fs

-- the octets of frames are those of their types
pub counts_are : (codec : Codec) (fs : List Frame) → AllByRecursion (IsFrame codec) fs
    → octet_counts fs ≡ map (octets_in codec) (types_of fs)
counts_are codec [] a = refl
counts_are codec (f ∷ fs) a = λ i. octets_for (a.0.size i) ∷ counts_are codec fs a.1 i

-- the frames that have bits are those whose types have
having_alike : (codec : Codec) (fs : List Frame) → AllByRecursion (IsFrame codec) fs
    → length (filter has_bits fs) ≡ length (filter (λ t. ltb 0 (bits_in codec t)) (types_of fs))
having_alike codec [] a = refl
having_alike codec (f ∷ fs) a =
    let rest = filter has_bits fs in
    ap (λ n. length (cond (ltb 0 n) (f ∷ rest) rest)) a.0.size
    ∙ length-cond (ltb 0 (bits_in codec f.ft)) f rest f.ft (filter (λ t. ltb 0 (bits_in codec t)) (types_of fs)) (having_alike codec fs a.1)

-- as many CRCs
pub checks_are : (p : Profile) (fs : List Frame) → AllByRecursion (IsFrame p.codec) fs
    → length (checked p fs) ≡ checks_count p (types_of fs)
checks_are p fs a = by_crc p.crc (having_alike p.codec fs a)
  where
    by_crc : (z : Bool)
        → length (filter has_bits fs) ≡ length (filter (λ t. ltb 0 (bits_in p.codec t)) (types_of fs)) → length (cond z (filter has_bits fs) []) ≡ cond z (length (filter (λ t. ltb 0 (bits_in p.codec t)) (types_of fs))) 0
    by_crc true h = h
    by_crc false h = refl
