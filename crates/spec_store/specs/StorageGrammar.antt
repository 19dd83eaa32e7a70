-- Which octets are a storage file (RFC 4867, 5.1 single channel, 5.2 multichannel header, 5.3
-- frames). P and fill bits and all but the last 4 bits of the channel description are free; the
-- multichannel magic number may stand before one channel (ours).
use Rattle.std.specs.Prelude.{◌≡◌, ℕ, ⊤, true, List, [], ◌∷◌, ◌++◌, flat_map}
use Rattle.std.specs.List.{AllByRecursion}
use Rattle.amr_bits.specs.Bits.{bits_of, nat}
use Rattle.amr_bits.specs.Layout.{Mark, fixed, free, padded, fits}
use Rattle.amr_frame.specs.declared.codec.Codec.{Codec}
use Rattle.amr_frame.specs.Frames.{Frame, IsBlock}
use Rattle.spec_store.specs.StorageFile.{single, multi}

-- which magic number a file begins with: that of one channel, or that before a channel description
pub data Magic : Type 0 where
  Single : Magic
  Multi : Magic

-- the header as it may stand: the magic number, and 32 bits, the last 4 telling the channels
abbrev pub header_layout : Codec → Magic → ℕ → List Mark
header_layout codec Single channels = fixed (bits_of (single codec))
header_layout codec Multi channels =
    fixed (bits_of (multi codec)) ++ free 28 ++ fixed (nat 4 channels)

-- the magic number without a channel description stands before one channel
abbrev pub Tells : Magic → ℕ → Type 0
Tells Single channels = channels ≡ 1
Tells Multi channels = ⊤

-- a frame as it may stand: P, the type in 4 bits, Q, two P bits, and the bits up to a whole octet
abbrev pub stored_layout : Frame → List Mark
stored_layout f = free 1 ++ fixed (nat 4 f.ft ++ f.q ∷ []) ++ free 2 ++ padded (fixed f.bits)

-- a block as it may stand: its frames in channel order
abbrev pub block_layout : List Frame → List Mark
block_layout block = flat_map stored_layout block

-- the bits of a file, each fixed or free
abbrev pub file_layout : Codec → Magic → ℕ → List (List Frame) → List Mark
file_layout codec magic channels blocks =
    header_layout codec magic channels ++ flat_map block_layout blocks

-- octets are a file of the codec and the channels with this magic number and these blocks
pub record IsFileBy (codec : Codec) (channels : ℕ) (magic : Magic) (blocks : List (List Frame))
    (file : List ℕ) : Type 0 where
  pub header : Tells magic channels
  pub are_blocks : AllByRecursion (IsBlock codec channels) blocks
  pub bits : fits (file_layout codec magic channels blocks) (bits_of file) ≡ true

-- the same with either magic number
abbrev pub IsFile : Codec → ℕ → List (List Frame) → List ℕ → Type 0
IsFile codec channels blocks file = (magic : Magic) × IsFileBy codec channels magic blocks file
