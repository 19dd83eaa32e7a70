-- The CRCs of frames are octets.
use Rattle.std.proofs.Common.{◌≡◌, ℕ, ◌^◌, ◌<◌, List, [], ◌∷◌, length, map, take, ap, arith}
use Rattle.std.specs.List.{AllByRecursion}
use Rattle.amr_bits.specs.Bits.{number}
use Rattle.amr_bits.proofs.Numbers.{number-lt}
use Rattle.amr_frame.specs.declared.profile.Profile.{Profile}
use Rattle.amr_frame.specs.Frames.{Frame}
use Rattle.amr_frame.specs.Tables.{class_a_in}
use Rattle.spec_payload.specs.FrameCrc.{crc_of}
use Rattle.spec_payload.specs.Grammar.{check_of}
use Rattle.spec_payload.proofs.Sums.{length-crc}

-- that of a frame
check_below : (p : Profile) (f : Frame) → check_of p f < 256
check_below p f =
    let a = take (class_a_in p.codec f.ft) f.bits in
    let e : 2 ^ length (crc_of a) ≡ 256 = ap (λ (n : ℕ). 2 ^ n) (length-crc a) in
    let h : number (crc_of a) < 2 ^ length (crc_of a) = number-lt (crc_of a) in
    omega (arith, h, e)

-- those of several frames
pub checks_below : (p : Profile) (fs : List Frame)
    → AllByRecursion (λ (c : ℕ). c < 256) (map (check_of p) fs)
checks_below p [] = tt
checks_below p (f ∷ fs) = (check_below p f, checks_below p fs)
