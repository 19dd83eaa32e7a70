-- What octets held show of the header of a storage file, or of the next block (RFC 4867, 5), frame
-- by frame. The reader is ours.
use Rattle.std.specs.Prelude.{◌≡◌, ◌⊎◌, ◌+◌, ◌*◌, ◌≤◌, ◌<◌, ℕ, cond, nat_eq, false, true, List, [], ◌∷◌, ◌++◌, length, map, take, drop, IsTrue, Some, None}
use Rattle.amr_frame.specs.declared.codec.Codec.{Codec}
use Rattle.amr_frame.specs.declared.cell.Cell.{Cell}
use Rattle.amr_frame.specs.Blocks.{IsPresentBlock, frames_of}
use Rattle.amr_frame.specs.Cells.{frame_of}
use Rattle.amr_frame.specs.Frames.{IsFrame}
use Rattle.amr_frame.specs.Tables.{is_reserved}
use Rattle.refusals.specs.declared.store.StoreRefusal.{StoreRefusal}
use Rattle.refusals.specs.declared.store.StoreRefusal.TheVariants as why
use Rattle.spec_store.specs.StorageReading.{channels_told, cut_refusal, frame_in, has_header, has_header_of, header_len, is_reserved_unit, is_unit, shown_refusal, unit_type}
use Rattle.store_laws.specs.Units.{AreUnits, IsPart}
use Rattle.amr_store.specs.declared.block.First.{First}
use Rattle.amr_store.specs.declared.block.First.TheVariants as first
use Rattle.amr_store.specs.declared.step.Sight.{Sight}
use Rattle.amr_store.specs.declared.step.Sight.TheVariants as sight
use Rattle.amr_store.specs.declared.step.Found.{Found}
use Rattle.amr_store.specs.declared.step.Found.TheVariants as found

-- the octets hold less than a header, and show no fault
pub record HeaderPart (codec : Codec) (channels : ℕ) (file : List ℕ) : Type 0 where
  pub none : has_header codec file ≡ false
  pub shown : shown_refusal codec channels file ≡ None
  pub few : length file < 19

-- the first n octets are a header of these channels
pub record HeaderWhole (codec : Codec) (channels : ℕ) (file : List ℕ) (n : ℕ) : Type 0 where
  pub has : has_header codec file ≡ true
  pub told : channels_told codec file ≡ channels
  pub len : n ≡ header_len codec file
  pub within : n ≤ length file

-- the octets show a fault, and no header of these channels
pub record HeaderWrong (codec : Codec) (channels : ℕ) (file : List ℕ) (w : StoreRefusal) : Type 0
  where
    pub shown : shown_refusal codec channels file ≡ Some w
    pub wrong : has_header_of codec channels file ≡ false

-- what the front of a file shows of its header
abbrev pub HeaderShows : Codec → ℕ → List ℕ → Sight → Type 0
HeaderShows codec channels file (sight.Part at) = HeaderPart codec channels file
HeaderShows codec channels file (sight.Whole len) = HeaderWhole codec channels file len
HeaderShows codec channels file (sight.Refused w) = HeaderWrong codec channels file w

-- what a whole header of n octets shows that tells `chan` channels
abbrev pub told_sight : ℕ → ℕ → ℕ → Sight
told_sight chan channels n =
    cond (nat_eq chan channels) (sight.Whole n) (sight.Refused (why.Channels chan))

-- why a file is refused that ends in its header
pub record HeaderCuts (codec : Codec) (channels : ℕ) (file : List ℕ) (w : StoreRefusal) : Type 0
  where
    pub cut : cut_refusal codec channels file ≡ Some w

-- the octets begin with this frame of a type that there is
pub record IsFirst (codec : Codec) (octets unit more : List ℕ) : Type 0 where
  pub join : octets ≡ unit ++ more
  pub whole : is_unit codec unit ≡ true
  pub known : is_reserved_unit codec unit ≡ false

-- the first n octets are a frame of a type that there is
pub record HoldsFrame (codec : Codec) (octets : List ℕ) (n : ℕ) : Type 0 where
  pub some : 1 ≤ n
  pub most : n ≤ 61
  pub within : n ≤ length octets
  pub first : IsFirst codec octets (take n octets) (drop n octets)

-- the octets begin a frame of a reserved type
pub record HoldsReserved (codec : Codec) (octets : List ℕ) (ft : ℕ) : Type 0 where
  pub head : ℕ
  pub more : List ℕ
  pub join : octets ≡ head ∷ more
  pub type : ft ≡ unit_type (head ∷ [])
  pub reserved : is_reserved codec (unit_type (head ∷ [])) ≡ true

-- the octets are less than the frame that they begin, and so less than 61
pub record HoldsPart (codec : Codec) (octets : List ℕ) : Type 0 where
  pub part : IsPart codec octets
  pub few : length octets ≤ 60

-- what stands first in octets
abbrev pub StandsFirst : Codec → List ℕ → First → Type 0
StandsFirst codec octets first.Part = HoldsPart codec octets
StandsFirst codec octets (first.Whole size) = HoldsFrame codec octets size
StandsFirst codec octets (first.Reserved ft) = HoldsReserved codec octets ft

-- the first `at` octets are so many frames of types that there are
pub record HoldsFrames (codec : Codec) (frames : ℕ) (octets : List ℕ) (at : ℕ) : Type 0 where
  pub units : List (List ℕ)
  pub are : AreUnits codec units (take at octets)
  pub count : length units ≡ frames
  pub within : at ≤ length octets
  pub most : at ≤ 61 * frames

-- the octets hold fewer frames than a block, and less than a frame behind them
pub record BlockPart (codec : Codec) (channels : ℕ) (octets : List ℕ) (at : ℕ) : Type 0 where
  pub frames : ℕ
  pub hold : HoldsFrames codec frames octets at
  pub fewer : frames < channels
  pub part : HoldsPart codec (drop at octets)

-- the octets hold fewer frames than a block, and begin one of a reserved type behind them
pub record BlockWrong (codec : Codec) (channels place : ℕ) (octets : List ℕ) (w : StoreRefusal)
    : Type 0 where
  pub frames : ℕ
  pub at : ℕ
  pub ft : ℕ
  pub hold : HoldsFrames codec frames octets at
  pub fewer : frames < channels
  pub reserved : HoldsReserved codec (drop at octets) ft
  pub named : w ≡ why.Reserved (place + at) ft

-- what octets show of the block that begins there, `place` octets behind the front of the file
abbrev pub BlockShows : Codec → ℕ → ℕ → List ℕ → Sight → Type 0
BlockShows codec channels place octets (sight.Part at) = BlockPart codec channels octets at
BlockShows codec channels place octets (sight.Whole len) = HoldsFrames codec channels octets len
BlockShows codec channels place octets (sight.Refused w) = BlockWrong codec channels place octets w

-- what a file comes to that ends here, where `at` octets are whole frames: it ends in a frame, in a
-- block, or on the edge of a block
abbrev pub BlockEnds : List ℕ → ℕ → ℕ → Found → Type 0
BlockEnds octets place at (found.Cut w) = ((at < length octets) × (w ≡ why.Truncated (place + at)))
    ⊎ ((at ≡ length octets) × (0 < at) × (w ≡ why.BlockRest place))
BlockEnds octets place at found.End = octets ≡ []
BlockEnds octets place at _ = ⊥

-- octets begin with a frame of a type that there is
pub record BeginsFrame (codec : Codec) (octets : List ℕ) : Type 0 where
  pub unit : List ℕ
  pub more : List ℕ
  pub first : IsFirst codec octets unit more

-- a cell holds the frame that stands first in octets, which is one of the codec
pub record ReadsFrame (codec : Codec) (octets : List ℕ) (cell : Cell) : Type 0 where
  pub frame : (unit more : List ℕ) → IsFirst codec octets unit more
      → frame_of cell ≡ frame_in codec unit
  pub valid : IsFrame codec (frame_of cell)
  pub present : IsTrue cell.present

-- octets are so many frames of types that there are
pub record AreFrames (codec : Codec) (frames : ℕ) (octets : List ℕ) : Type 0 where
  pub units : List (List ℕ)
  pub are : AreUnits codec units octets
  pub count : length units ≡ frames

-- cells hold the frames that octets are
pub record ReadsBlock (codec : Codec) (octets : List ℕ) (cells : List Cell) : Type 0 where
  pub units : List (List ℕ)
  pub are : AreUnits codec units octets
  pub count : length units ≡ length cells
  pub frames : frames_of cells ≡ map (frame_in codec) units
  pub block : IsPresentBlock codec (length cells) cells
