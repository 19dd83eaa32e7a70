-- The cause of each answer of a reader in the octets of the whole file, where these are told (RFC
-- 4867, 5). The limit is ours.
use Rattle.std.specs.Prelude.{◌≡◌, ◌<◌, ℕ, cond, nat_lt, false, true, List, ◌∷◌, ◌++◌, length, take, Option, Some, Result, IfSome, IfOk}
use Rattle.amr_io.specs.declared.source.Failed.{Failed}
use Rattle.amr_frame.specs.declared.cell.Cell.{Cell}
use Rattle.amr_frame.specs.declared.codec.Codec.{Codec}
use Rattle.amr_frame.specs.Blocks.{frames_of}
use Rattle.amr_frame.specs.Frames.{Frame}
use Rattle.refusals.specs.declared.store.StoreRefusal.{StoreRefusal}
use Rattle.spec_store.specs.StorageReading.{blocks_in, has_header_of, shown_refusal, store_refusal}
use Rattle.amr_store.specs.declared.reader.StoreReader.{StoreReader}
use Rattle.amr_store.specs.declared.step.Step.{Step}
use Rattle.amr_store.specs.declared.step.Step.TheVariants.{Ready, End, Refused, OverLimit}
use Rattle.amr_store.specs.Reading.{ShowsNoHeader, ShowsNothing, channels_of, codec_of, held, limit_of}

-- why a file is refused of which at most `limit` octets are taken: where it has more, by what those
-- show
abbrev pub refusal_within : Codec → ℕ → ℕ → List ℕ → Option StoreRefusal
refusal_within codec channels limit file = cond (nat_lt limit (length file))
    (shown_refusal codec channels (take limit file)) (store_refusal codec channels file)

-- the file is refused, and what is taken of it holds no header of the codec and the channels
pub record IsRefusedHeader (codec : Codec) (channels limit : ℕ) (file : List ℕ)
    (w : StoreRefusal) : Type 0 where
  pub refused : refusal_within codec channels limit file ≡ Some w
  pub header : has_header_of codec channels (take limit file) ≡ false

-- the cause of an answer to the call for the header
abbrev pub TellsHeader : Codec → ℕ → ℕ → List ℕ → Step → Type 0
TellsHeader codec channels limit file Ready =
    has_header_of codec channels (take limit file) ≡ true
TellsHeader codec channels limit file End = ⊥
TellsHeader codec channels limit file (Refused w) = IsRefusedHeader codec channels limit file w
TellsHeader codec channels limit file OverLimit = (limit < length file)
    × ShowsNoHeader codec channels (take limit file)

-- what is taken of the file has these frames as its next block behind those of its front
pub record IsNextBlock (codec : Codec) (channels limit : ℕ) (front file : List ℕ)
    (block : List Frame) : Type 0 where
  pub rest : List (List Frame)
  pub blocks : blocks_in codec channels (take limit file)
      ≡ blocks_in codec channels front ++ block ∷ rest

-- the file is refused, and what is taken of it holds no block behind its front
pub record IsRefusedBlock (codec : Codec) (channels limit : ℕ) (front file : List ℕ)
    (w : StoreRefusal) : Type 0 where
  pub refused : refusal_within codec channels limit file ≡ Some w
  pub blocks : blocks_in codec channels (take limit file) ≡ blocks_in codec channels front

-- the cause of an answer to a call for the next block, behind this front of the file
abbrev pub TellsNext : Codec → ℕ → ℕ → List ℕ → List ℕ → List Cell → Step → Type 0
TellsNext codec channels limit front file cells Ready =
    IsNextBlock codec channels limit front file (frames_of cells)
TellsNext codec channels limit front file cells End = file ≡ front
TellsNext codec channels limit front file cells (Refused w) =
    IsRefusedBlock codec channels limit front file w
TellsNext codec channels limit front file cells OverLimit = (limit < length file)
    × ShowsNothing codec channels front (take limit file)

-- where the octets left are told and a call is served, they and those held are the answer's cause
abbrev pub TellsHeaderIn : Option (List ℕ) → StoreReader → Result Step Failed → Type 0
TellsHeaderIn left old r = IfSome left (λ all. IfOk r
    (λ step. TellsHeader (codec_of old) (channels_of old) (limit_of old) (held old ++ all) step))

abbrev pub TellsNextIn : Option (List ℕ) → List ℕ → StoreReader → Result Step Failed → List Cell
    → Type 0
TellsNextIn left front old r cells = IfSome left (λ all. IfOk r
    (λ step. TellsNext (codec_of old) (channels_of old) (limit_of old) front
    (front ++ (held old ++ all)) cells step))
