-- Bits of a layout as they are written anew: RFC 4867, 4.3 and 4.4, lets a receiver ignore the free
-- bits, and has a sender write them 0.
use Rattle.std.specs.Prelude.{Bool, false, List, [], ◌∷◌, Some, None}
use Rattle.amr_bits.specs.Layout.{Mark}

-- the bits at the places of a layout, those at free places being 0
abbrev pub cleared : List Mark → List Bool → List Bool
cleared [] bits = []
cleared (m ∷ marks) [] = []
cleared (None ∷ marks) (b ∷ bits) = false ∷ cleared marks bits
cleared (Some a ∷ marks) (b ∷ bits) = b ∷ cleared marks bits
