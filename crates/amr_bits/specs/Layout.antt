-- Layouts of formats: which bits a text fixes and which it leaves free (a word of this project for
-- the bits that RFC 4867, 4.3 and 4.4, calls padding, and that a receiver ignores).
use Rattle.std.specs.Prelude.{ℕ, ◌-◌, ◌*◌, Bool, true, false, cond, List, [], ◌∷◌, ◌++◌, length, map, replicate, Option, Some, None}
use Rattle.amr_bits.specs.Bits.{octets_for}

-- one place of a layout: a bit that is fixed, or a free one
abbrev pub Mark : Type 0
Mark = Option Bool

-- places that have these bits
abbrev pub fixed : List Bool → List Mark
fixed bits = map Some bits

-- n places with any bits
abbrev pub free : ℕ → List Mark
free n = replicate n None

-- a layout with free places behind it up to a whole octet
abbrev pub padded : List Mark → List Mark
padded marks = marks ++ free (8 * octets_for (length marks) - length marks)

-- whether two bits are the same
abbrev pub same_bit : Bool → Bool → Bool
same_bit true b = b
same_bit false true = false
same_bit false false = true

-- whether a bit may stand at a place
abbrev pub allows : Mark → Bool → Bool
allows None b = true
allows (Some a) b = same_bit a b

-- whether bits have a layout: they are as many, and each may stand at its place
abbrev pub fits : List Mark → List Bool → Bool
fits [] [] = true
fits [] (b ∷ bits) = false
fits (m ∷ marks) [] = false
fits (m ∷ marks) (b ∷ bits) = cond (allows m b) (fits marks bits) false

-- the bit that a place has when it is written: a free one is 0
abbrev pub settled : Mark → Bool
settled None = false
settled (Some b) = b
