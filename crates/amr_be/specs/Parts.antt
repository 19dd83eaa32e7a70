-- What stands behind the table of a bandwidth-efficient payload that is written (RFC 4867, 4.3).
use Rattle.std.specs.Prelude.{Bool, List, flat_map}
use Rattle.amr_frame.specs.Frames.{Frame}

-- the bits of frames, one behind the other
abbrev pub body_part : List Frame → List Bool
body_part frames = flat_map (λ (f : Frame). f.bits) frames
