-- A frame that stands first in the octets held of a file of one channel, and is passed as the next
-- block (RFC 4867, 5.3). The reader is ours.
use Rattle.std.specs.Prelude.{◌≡◌, ◌⊎◌, ◌<◌, ◌+◌, ℕ, List, [], ◌∷◌, ◌++◌, length, take, drop, Option, Some, None}
use Rattle.amr_frame.specs.declared.codec.Codec.{Codec}
use Rattle.spec_store.specs.StorageReading.{blocks_in, frame_in}
use Rattle.amr_store.specs.declared.front.UnitAhead.{UnitAhead}
use Rattle.amr_store.specs.declared.reader.StoreReader.{StoreReader}
use Rattle.amr_store.specs.Reading.{HasGiven, IsSameReader, given, held}
use Rattle.amr_store.specs.Sights.{HoldsFrame, HoldsReserved}

-- the frame that stands first in octets, and the first 61 of them
pub record StandsAhead (codec : Codec) (octets : List ℕ) (unit : UnitAhead) : Type 0 where
  pub front : unit.octets.now ≡ take 61 octets
  pub holds : HoldsFrame codec octets unit.size

-- octets show the frame that stands first: they are fewer than 61, or its type is reserved, where
-- they don't
abbrev pub ShowsUnit : Codec → List ℕ → Option UnitAhead → Type 0
ShowsUnit codec octets (Some unit) = StandsAhead codec octets unit
ShowsUnit codec octets None = (length octets < 61)
    ⊎ ((ft : ℕ) × HoldsReserved codec octets ft)

-- the first octets held were given as the next block of a file of one channel, of which these were
-- given before
pub record PassedUnit (file : List ℕ) (size : ℕ) (old new : StoreReader) : Type 0 where
  pub given_is : HasGiven (file ++ take size (held old)) new
  pub blocks : blocks_in old.codec old.channels (file ++ take size (held old))
      ≡ blocks_in old.codec old.channels file
      ++ (frame_in old.codec (take size (held old)) ∷ []) ∷ []

-- a frame of so many octets was passed: the same reader, with the octets behind it
pub record Passes (size : ℕ) (old new : StoreReader) : Type 0 where
  pub passed : (file : List ℕ) → HasGiven file old → PassedUnit file size old new
  pub left : held new ≡ drop size (held old)
  pub rises : given new ≡ given old + size
  pub same : IsSameReader old new
