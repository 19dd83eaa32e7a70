-- A payload as it is seen: a frame whose CRC differs is kept with Q = 0 (ours; RFC 4867, 4.4.2.1,
-- lets it be used as a damaged frame).
use Rattle.std.specs.Prelude.{ℕ, cond, ◌&&◌, nat_eq, List, [], ◌∷◌}
use Rattle.amr_frame.specs.declared.profile.Profile.{Profile}
use Rattle.amr_frame.specs.Frames.{Frame}
use Rattle.spec_payload.specs.Grammar.{check_of}
use Rattle.spec_payload.specs.Values.{Value, has_bits}

-- the frames with Q = 0 where the CRC that came isn't the frame's; each frame that has bits takes the
-- next CRC
abbrev pub marked : Profile → List Frame → List ℕ → List Frame
marked p [] checks = []
marked p (f ∷ fs) [] = f ∷ marked p fs []
marked p (f ∷ fs) (c ∷ cs) =
    cond (has_bits f) (record f { q = f.q && nat_eq c (check_of p f) } ∷ marked p fs cs)
    (f ∷ marked p fs (c ∷ cs))

-- the value with its damaged frames marked
abbrev pub seen : Profile → Value → List ℕ → Value
seen p v checks = record v { frames = marked p v.frames checks }
