-- Storage files as they are written (RFC 4867, 5.1 single channel, 5.2 multichannel header, 5.3
-- frames).
use Rattle.std.specs.Prelude.{ℕ, false, cond, nat_eq, List, [], ◌∷◌, ◌++◌, flat_map, codes}
use Rattle.amr_frame.specs.declared.codec.Codec.{Codec}
use Rattle.amr_frame.specs.declared.codec.Codec.TheVariants.{Amr, AmrWb}
use Rattle.amr_bits.specs.Bits.{nat, filled}
use Rattle.amr_frame.specs.Frames.{Frame}

-- how the magic numbers of a codec begin
abbrev pub name : Codec → List ℕ
name Amr = codes "#!AMR"
name AmrWb = codes "#!AMR-WB"

-- the magic number of a file of one channel, and of one of several channels
abbrev pub single : Codec → List ℕ
single codec = name codec ++ codes "\n"

abbrev pub multi : Codec → List ℕ
multi codec = name codec ++ codes "_MC1.0\n"

-- the header: the magic number, and for several channels 32 bits, the last 4 telling their number
abbrev pub header : Codec → ℕ → List ℕ
header codec channels =
    cond (nat_eq channels 1) (single codec) (multi codec ++ 0 ∷ 0 ∷ 0 ∷ channels ∷ [])

-- a frame: an octet with P 0, the type, Q and two P bits 0, and then the bits filled with zeros
abbrev pub frame_text : Frame → List ℕ
frame_text f = filled (false ∷ nat 4 f.ft ++ f.q ∷ []) ++ filled f.bits

-- a block: its frames in channel order
abbrev pub block_text : List Frame → List ℕ
block_text block = flat_map frame_text block

-- the storage file of blocks
abbrev pub storage_file : Codec → ℕ → List (List Frame) → List ℕ
storage_file codec channels blocks = header codec channels ++ flat_map block_text blocks
