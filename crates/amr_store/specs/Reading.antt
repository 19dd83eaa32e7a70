-- What a reader of storage files holds, and what its calls do (RFC 4867, 5). The reader is ours.
use Rattle.std.specs.Prelude.{◌≡◌, ◌⊎◌, ◌+◌, ◌-◌, ◌≤◌, ℕ, false, List, [], ◌∷◌, ◌++◌, length, Option, Some, None, Result, Ok, Err, IfSome}
use Rattle.std.specs.Io.KnownBytes.{Consumes}
use Rattle.amr_io.specs.declared.source.Failed.{Failed}
use Rattle.amr_io.specs.declared.gate.Gate.TheVariants as gate
use Rattle.amr_frame.specs.declared.cell.Cell.{Cell}
use Rattle.amr_frame.specs.declared.codec.Codec.{Codec}
use Rattle.amr_frame.specs.Blocks.{IsPresentBlock, frames_of}
use Rattle.refusals.specs.declared.store.StoreRefusal.{StoreRefusal}
use Rattle.spec_store.specs.StorageFile.{block_text}
use Rattle.spec_store.specs.StorageReading.{blocks_in, has_header_of, shown_refusal, store_refusal}
use Rattle.amr_store.specs.declared.reader.StoreReader.{StoreReader}
use Rattle.amr_store.specs.declared.step.Phase.TheVariants as phase
use Rattle.amr_store.specs.declared.step.Step.{Step}
use Rattle.amr_store.specs.declared.step.Step.TheVariants.{Ready, End, Refused, OverLimit}

-- the octets that were taken from the source and not given yet
abbrev pub held : StoreReader → List ℕ
held r = r.inlet.held

-- how many octets were taken from the source, and how many may be
abbrev pub taken_of : StoreReader → ℕ
taken_of r = r.inlet.taken

abbrev pub limit_of : StoreReader → ℕ
limit_of r = r.inlet.limit

-- how many octets stood in the header and the blocks that were given
abbrev pub given : StoreReader → ℕ
given r = r.inlet.taken - length r.inlet.held

-- the codec and the channels that are asked
abbrev pub codec_of : StoreReader → Codec
codec_of r = r.codec

abbrev pub channels_of : StoreReader → ℕ
channels_of r = r.channels

-- the header isn't read yet
abbrev pub IsFresh : StoreReader → Type 0
IsFresh r = (r.phase ≡ phase.Fresh) × (r.inlet.gate ≡ gate.Open) × (r.inlet.taken ≡ 0)

-- blocks are given
abbrev pub IsOpen : StoreReader → Type 0
IsOpen r = (r.phase ≡ phase.Open) × (r.inlet.gate ≡ gate.Open)

-- the file ended on the edge of a block
abbrev pub HasEnded : StoreReader → Type 0
HasEnded r = r.phase ≡ phase.Ended

-- the next block may be asked for
abbrev pub IsUsable : StoreReader → Type 0
IsUsable r = IsOpen r ⊎ HasEnded r

-- no further call may be made
abbrev pub IsSpent : StoreReader → Type 0
IsSpent r = r.phase ≡ phase.Spent

-- what an answer leaves of a reader: blocks are given, the file ended, or no further call may be
-- made
abbrev pub Leaves : Result Step Failed → StoreReader → Type 0
Leaves (Ok Ready) r = IsOpen r
Leaves (Ok End) r = HasEnded r
Leaves _ r = IsSpent r

-- a reader reads the same codec, channels and limit as another
pub record IsSameReader (old new : StoreReader) : Type 0 where
  pub codec : new.codec ≡ old.codec
  pub channels : new.channels ≡ old.channels
  pub limit : limit_of new ≡ limit_of old

-- these octets of a file were given, which are a file of the codec and the channels by themselves,
-- and blocks are given
pub record HasGiven (file : List ℕ) (r : StoreReader) : Type 0 where
  pub is_open : IsOpen r
  pub is_file : store_refusal r.codec r.channels file ≡ None
  pub given_are : length file ≡ given r

-- these are all that were left, where that was told
abbrev pub Exhausts : Option (List ℕ) → List ℕ → Type 0
Exhausts left octets = IfSome left (λ all. all ≡ octets)

-- octets show no header of the codec and the channels, and no fault
pub record ShowsNoHeader (codec : Codec) (channels : ℕ) (file : List ℕ) : Type 0 where
  pub shown : shown_refusal codec channels file ≡ None
  pub header : has_header_of codec channels file ≡ false

-- they are refused by a rule, and hold no header of the codec and the channels
pub record RefusesHeader (codec : Codec) (channels : ℕ) (rule : List ℕ → Option StoreRefusal)
    (w : StoreRefusal) (file : List ℕ) : Type 0 where
  pub refused : rule file ≡ Some w
  pub header : has_header_of codec channels file ≡ false

-- octets of a file that begins with these hold no block more than these, and show no fault
pub record ShowsNothing (codec : Codec) (channels : ℕ) (front file : List ℕ) : Type 0 where
  pub shown : shown_refusal codec channels file ≡ None
  pub blocks : blocks_in codec channels file ≡ blocks_in codec channels front

-- the octets held behind these of the file show no answer to a call for the next block
abbrev pub HoldsNothing : List ℕ → StoreReader → Type 0
HoldsNothing file r = ShowsNothing r.codec r.channels file (file ++ held r)

-- octets are refused by a rule, and hold no block more
pub record RefusesBlock (codec : Codec) (channels : ℕ) (front : List ℕ)
    (rule : List ℕ → Option StoreRefusal) (w : StoreRefusal) (file : List ℕ) : Type 0 where
  pub refused : rule file ≡ Some w
  pub blocks : blocks_in codec channels file ≡ blocks_in codec channels front

-- a header stands before the octets held
pub record TookHeader (more : List ℕ) (old new : StoreReader) : Type 0 where
  pub header : List ℕ
  pub join : held old ++ more ≡ header ++ held new
  pub given_is : HasGiven header new
  pub no_blocks : blocks_in old.codec old.channels header ≡ []

-- what a call for the header that read these octets did, by its answer: a refusal is shown by the
-- octets held, whatever stands behind them, or by them all, where the file ended
abbrev pub Begins : Option (List ℕ) → Option (List ℕ) → List ℕ → StoreReader
    → Result Step Failed → StoreReader → Type 0
Begins left left' more old (Ok Ready) new = Consumes left left' more × TookHeader more old new
Begins left left' more old (Ok End) new = ⊥
Begins left left' more old (Ok (Refused w)) new = let c = old.codec in let n = old.channels in
    Consumes left left' more × (held old ++ more ≡ held new)
    × (((behind : List ℕ) → RefusesHeader c n (shown_refusal c n) w (held new ++ behind))
    ⊎ (Exhausts left more × RefusesHeader c n (store_refusal c n) w (held new)))
Begins left left' more old (Ok OverLimit) new = (x : ℕ) × Consumes left left' (more ++ x ∷ [])
    × (held old ++ more ≡ held new) × (taken_of new ≡ limit_of new)
    × ShowsNoHeader old.codec old.channels (held new)
Begins left left' more old (Err _) new = Consumes left left' more
    × (held old ++ more ≡ held new) × ShowsNoHeader old.codec old.channels (held new)

-- a block stands between these octets, which were given of the file, and the octets held
pub record TookBlock (file more : List ℕ) (old : StoreReader) (cells : List Cell)
    (new : StoreReader) : Type 0 where
  pub block : List ℕ
  pub join : held old ++ more ≡ block ++ held new
  pub given_is : HasGiven (file ++ block) new
  pub blocks : blocks_in old.codec old.channels (file ++ block)
      ≡ blocks_in old.codec old.channels file ++ frames_of cells ∷ []
  pub present : IsPresentBlock old.codec old.channels cells

-- what a call for the next block that read these octets did, by its answer: a refusal is shown by
-- the octets held, whatever stands behind them, or by them all, where the file ended
abbrev pub GoesOn : List ℕ → Option (List ℕ) → Option (List ℕ) → List ℕ → StoreReader
    → Result Step Failed → List Cell → StoreReader → Type 0
GoesOn file left left' more old (Ok Ready) cells new = Consumes left left' more
    × TookBlock file more old cells new
GoesOn file left left' more old (Ok End) cells new = Consumes left left' more
    × Exhausts left more × (held old ++ more ≡ []) × (held new ≡ [])
GoesOn file left left' more old (Ok (Refused w)) cells new =
    let c = old.codec in let n = old.channels in
    Consumes left left' more × (held old ++ more ≡ held new)
    × (((behind : List ℕ)
    → RefusesBlock c n file (shown_refusal c n) w ((file ++ held new) ++ behind))
    ⊎ (Exhausts left more × RefusesBlock c n file (store_refusal c n) w (file ++ held new)))
GoesOn file left left' more old (Ok OverLimit) cells new = (x : ℕ)
    × Consumes left left' (more ++ x ∷ []) × (held old ++ more ≡ held new)
    × (taken_of new ≡ limit_of new)
    × ShowsNothing old.codec old.channels file (file ++ held new)
GoesOn file left left' more old (Err _) cells new = Consumes left left' more
    × (held old ++ more ≡ held new)
    × ShowsNothing old.codec old.channels file (file ++ held new)

-- some octets were read, and a call for the header did so with them
pub record Began (left left' : Option (List ℕ)) (old : StoreReader) (r : Result Step Failed)
    (new : StoreReader) : Type 0 where
  pub more : List ℕ
  pub begins : Begins left left' more old r new
  pub taken : taken_of new ≡ taken_of old + length more

-- some octets were read, and a call for the block behind these octets of the file did so with them
pub record WentOn (file : List ℕ) (left left' : Option (List ℕ)) (old : StoreReader)
    (r : Result Step Failed) (cells : List Cell) (new : StoreReader) : Type 0 where
  pub more : List ℕ
  pub goes : GoesOn file left left' more old r cells new
  pub taken : taken_of new ≡ taken_of old + length more

-- the octets of the block that was given
abbrev pub block_octets : Result Step Failed → List Cell → ℕ
block_octets (Ok Ready) cells = length (block_text (frames_of cells))
block_octets _ cells = 0

-- cells are as before, unless a block was given
abbrev pub KeepsCells : List Cell → Result Step Failed → List Cell → Type 0
KeepsCells cells (Ok Ready) cells' = length cells' ≡ length cells
KeepsCells cells _ cells' = cells' ≡ cells

-- what a call leaves of a reader, by its answer: the codec, the channels and the limit that it had,
-- and no more octets given than the limit
pub record IsLeft (old : StoreReader) (r : Result Step Failed) (new : StoreReader) : Type 0 where
  pub leaves : Leaves r new
  pub same : IsSameReader old new
  pub within : given new ≤ limit_of new

-- the octets given rise by those of the block, and the cells hold it or are as before
pub record Counts (old : StoreReader) (cells : List Cell) (r : Result Step Failed)
    (cells' : List Cell) (new : StoreReader) : Type 0 where
  pub rises : given new ≡ given old + block_octets r cells'
  pub kept : KeepsCells cells r cells'
