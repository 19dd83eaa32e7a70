-- How many frames a payload has that a format carries.
use Rattle.std.proofs.Common.{◌*◌, ◌<◌, ◌≤◌, List, [], ◌∷◌, length, arith}
use Rattle.std.specs.List.{AllByRecursion}
use Rattle.std.proofs.Math.Nat.{mul-le-mul, mul-le-mul_right}
use Rattle.std.proofs.lemmas.List.{length-map}
use Rattle.amr_frame.specs.Cells.{frame_of}
use Rattle.amr_frame.specs.Blocks.{frames_of}
use Rattle.amr_frame.specs.declared.codec.Codec.{Codec}
use Rattle.amr_frame.specs.declared.profile.Profile.{Profile}
use Rattle.amr_frame.specs.Frames.{Frame, IsFrame}
use Rattle.amr_toc.specs.Entries.{AreListed}
use Rattle.amr_toc.specs.declared.payload.Payload.{Payload}
use Rattle.amr_toc.specs.Payloads.{IsCarried}

-- as many as fit the greatest table
pub few : (p : Profile) (payload : Payload) → IsCarried p payload → p.max_blocks * p.channels ≤ 384 → length payload.cells.now ≤ 384
few p payload h most =
    let whole = h.value.whole in
    let size = length-map payload.cells.now frame_of in
    let blocks = mul-le-mul_right p.channels h.value.most in
    omega arith

-- and at least one
pub at_least_one : (p : Profile) (payload : Payload) → IsCarried p payload → 0 < p.channels → 1 ≤ length payload.cells.now
at_least_one p payload h channels =
    let whole = h.value.whole in
    let size = length-map payload.cells.now frame_of in
    let least : 1 ≤ p.channels = omega (arith, channels) in
    let blocks : 1 * 1 ≤ h.value.blocks * p.channels = mul-le-mul h.value.some least in
    omega arith

-- which have types of four bits
types_in : (codec : Codec) (frames : List Frame) → AllByRecursion (IsFrame codec) frames
    → AllByRecursion (λ (f : Frame). f.ft ≤ 15) frames
types_in codec [] all = tt
types_in codec (f ∷ fs) all = (all.0.type, types_in codec fs all.1)

-- so that a table lists them
pub listed : (p : Profile) (payload : Payload) → IsCarried p payload → p.max_blocks * p.channels ≤ 384
    → 0 < p.channels → AreListed (frames_of payload.cells.now)
listed p payload h most channels =
    let size = length-map payload.cells.now frame_of in
    let low = at_least_one p payload h channels in
    let high = few p payload h most in
    record {
      some = omega arith;
      most = omega arith;
      types = types_in p.codec (frames_of payload.cells.now) h.value.frames;
    }
