-- The bits that a BitSlice and a FixedBits stand for.
use Rattle.std.specs.Prelude.{ℕ, Bool, List}
use Rattle.amr_bits.specs.Bits.{bits_at}
use Rattle.amr_bits.specs.declared.slice.BitSlice.{BitSlice}
use Rattle.amr_bits.specs.declared.fixed.FixedBits.{FixedBits}

-- the bits of a borrowed run, in order
abbrev pub run : BitSlice → List Bool
run s = bits_at s.octets.now s.start s.len

-- the bits that are kept by value, in order
abbrev pub kept : {N : ℕ} → FixedBits N → List Bool
kept f = bits_at f.octets 0 f.len
