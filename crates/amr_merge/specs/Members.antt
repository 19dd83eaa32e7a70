-- Which frames stand in a list.
use Rattle.std.specs.Prelude.{◌≡◌, ◌⊎◌, List, [], ◌∷◌}
use Rattle.amr_frame.specs.Frames.{Frame}

-- the frame is one of the list
abbrev pub StandsIn : Frame → List Frame → Type 0
StandsIn f [] = ⊥
StandsIn f (x ∷ xs) = (x ≡ f) ⊎ StandsIn f xs
