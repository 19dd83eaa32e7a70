-- What stands at the front of octets that are written bit by bit.
use Rattle.std.specs.Prelude.{ℕ, Bool, List}
use Rattle.amr_bits.specs.Bits.{bits_at}

-- the first n bits of the octets
abbrev pub front : List ℕ → ℕ → List Bool
front octets n = bits_at octets 0 n
