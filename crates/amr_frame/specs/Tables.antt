-- The frame types of both codecs and their numbers of bits (3GPP TS 26.101 and TS 26.201; RFC 4867,
-- 4.3.2). How many of a frame's first bits a frame CRC covers is this project's own.
use Rattle.std.specs.Prelude.{ℕ, ◌-◌, ◌^◌, Bool, true, false, List, [], ◌∷◌, ◌++◌, replicate, slice_index_or}
use Rattle.amr_frame.specs.declared.codec.Codec.{Codec}
use Rattle.amr_frame.specs.declared.codec.Codec.TheVariants.{Amr, AmrWb}
use Rattle.amr_frame.specs.declared.codec.Kind.{Kind}
use Rattle.amr_frame.specs.declared.codec.Kind.TheVariants.{Speech, Sid, Lost, Empty, Reserved}
use Rattle.amr_bits.specs.Bits.{octets_for}

-- a row of the table: what the type stands for, the bits of a frame, and those under its CRC
pub record Row : Type 0 where
  pub kind : Kind
  pub bits : ℕ
  pub class_a : ℕ

abbrev row : Kind → ℕ → ℕ → Row
row kind bits class_a = record { kind = kind; bits = bits; class_a = class_a }

abbrev reserved : Row
reserved = row Reserved 0 0

-- the rows of a codec by frame type, from 0 to 15
abbrev pub rows : Codec → List Row
rows Amr =
    row Speech 95 42 ∷ row Speech 103 49 ∷ row Speech 118 55 ∷ row Speech 134 58
    ∷ row Speech 148 61 ∷ row Speech 159 75 ∷ row Speech 204 65 ∷ row Speech 244 81
    ∷ row Sid 39 39 ∷ replicate 6 reserved ++ row Empty 0 0 ∷ []
rows AmrWb =
    row Speech 132 54 ∷ row Speech 177 64 ∷ row Speech 253 72 ∷ row Speech 285 72
    ∷ row Speech 317 72 ∷ row Speech 365 72 ∷ row Speech 397 72 ∷ row Speech 461 72
    ∷ row Speech 477 72 ∷ row Sid 40 40 ∷ replicate 4 reserved ++ row Lost 0 0 ∷ row Empty 0 0 ∷ []

abbrev row_of : Codec → ℕ → Row
row_of codec ft = slice_index_or (rows codec) ft reserved

-- what a frame type stands for
abbrev pub kind_in : Codec → ℕ → Kind
kind_in codec ft = (row_of codec ft).kind

-- the number of bits of a frame of this type
abbrev pub bits_in : Codec → ℕ → ℕ
bits_in codec ft = (row_of codec ft).bits

-- how many of its first bits a frame CRC covers
abbrev pub class_a_in : Codec → ℕ → ℕ
class_a_in codec ft = (row_of codec ft).class_a

-- the number of octets that hold the bits of a frame of this type
abbrev pub octets_in : Codec → ℕ → ℕ
octets_in codec ft = octets_for (bits_in codec ft)

-- the ticks of one frame time of 20 ms, and of one second (RFC 4867, 8.1 and 8.2: the RTP clock)
abbrev pub ticks : Codec → ℕ
ticks Amr = 160
ticks AmrWb = 320

abbrev pub clock : Codec → ℕ
clock Amr = 8000
clock AmrWb = 16000

-- whether no frame has this type
abbrev pub is_reserved : Codec → ℕ → Bool
is_reserved codec ft = elim (kind_in codec ft) [
  | Speech ↦ false
  | Sid ↦ false
  | Lost ↦ false
  | Empty ↦ false
  | Reserved ↦ true
]

-- whether a frame type is a speech mode
abbrev pub is_mode : Codec → ℕ → Bool
is_mode codec ft = elim (kind_in codec ft) [
  | Speech ↦ true
  | Sid ↦ false
  | Lost ↦ false
  | Empty ↦ false
  | Reserved ↦ false
]

-- the speech modes of a codec, 0 to 7 or 0 to 8, as the bits of a number: bit m for mode m
abbrev pub mode_bits : Codec → ℕ
mode_bits Amr = 2 ^ 8 - 1
mode_bits AmrWb = 2 ^ 9 - 1
