-- A payload without CRCs is seen as the value that it says.
use Rattle.std.proofs.Common.{◌≡◌, List, [], ◌∷◌, refl, ap}
use Rattle.amr_frame.specs.declared.profile.Profile.{Profile}
use Rattle.amr_frame.specs.Frames.{Frame}
use Rattle.spec_payload.specs.Seen.{marked, seen}
use Rattle.spec_payload.specs.Values.{Value}

-- no CRC marks no frame
pub marked_none : (p : Profile) (fs : List Frame) → marked p fs [] ≡ fs
marked_none p [] = refl
marked_none p (f ∷ fs) = ap {B = List Frame} (λ t. f ∷ t) (marked_none p fs)

pub seen_none : (p : Profile) (v : Value) → seen p v [] ≡ v
seen_none p v = λ i. record { cmr = v.cmr; stride = v.stride; index = v.index; frames = marked_none p v.frames i }
