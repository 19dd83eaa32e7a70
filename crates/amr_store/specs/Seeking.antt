-- How a reader of storage files reads until the header, or the next block, is shown. The reader is
-- ours.
use Rattle.std.specs.Prelude.{◌≡◌, ◌⊎◌, ◌+◌, ℕ, List, [], ◌∷◌, ◌++◌, length, take, drop, Option, Result, IsOk, Ok, Err}
use Rattle.std.specs.Io.KnownBytes.{Consumes}
use Rattle.amr_io.specs.Fault.{HasCause}
use Rattle.amr_io.specs.declared.gate.Gate.TheVariants as gate
use Rattle.amr_io.specs.declared.source.Source as source
use Rattle.amr_io.specs.declared.source.Failed.{Failed}
use Rattle.amr_frame.specs.declared.cell.Cell.{Cell}
use Rattle.amr_frame.specs.declared.codec.Codec.{Codec}
use Rattle.amr_store.specs.declared.reader.StoreReader.{StoreReader}
use Rattle.amr_store.specs.declared.step.Phase.{Phase}
use Rattle.amr_store.specs.declared.step.Phase.TheVariants as phase
use Rattle.amr_store.specs.declared.step.Step.{Step}
use Rattle.amr_store.specs.declared.step.Step.TheVariants as step
use Rattle.amr_store.specs.declared.step.Sight.{Sight}
use Rattle.amr_store.specs.declared.step.Sight.TheVariants as sight
use Rattle.amr_store.specs.declared.step.Found.{Found}
use Rattle.amr_store.specs.declared.step.Found.TheVariants.{Whole, Shown, Cut, End, OverLimit}
use Rattle.amr_store.specs.Sights.{BlockEnds, BlockShows, HeaderCuts, HeaderShows, HoldsFrames, ReadsBlock}
use Rattle.amr_store.specs.Reading.{Exhausts, IsSameReader, given, held, limit_of, taken_of}

-- what octets show of the header where it isn't read yet, and else of the next block
abbrev pub LooksBy : Phase → Codec → ℕ → ℕ → List ℕ → Sight → Type 0
LooksBy phase.Fresh codec channels place octets s = HeaderShows codec channels octets s
LooksBy phase.Open codec channels place octets s = BlockShows codec channels place octets s
LooksBy phase.Ended codec channels place octets s = BlockShows codec channels place octets s
LooksBy phase.Spent codec channels place octets s = BlockShows codec channels place octets s

-- why a file is refused that ends in its header
abbrev HeaderEnds : Codec → ℕ → List ℕ → Found → Type 0
HeaderEnds codec channels octets (Cut w) = HeaderCuts codec channels octets w
HeaderEnds codec channels octets _ = ⊥

-- what a file comes to that ends behind octets of which the first `at` are whole frames
abbrev pub EndsBy : Phase → Codec → ℕ → ℕ → List ℕ → ℕ → Found → Type 0
EndsBy phase.Fresh codec channels place octets at f = HeaderEnds codec channels octets f
EndsBy phase.Open codec channels place octets at f = BlockEnds octets place at f
EndsBy phase.Ended codec channels place octets at f = BlockEnds octets place at f
EndsBy phase.Spent codec channels place octets at f = BlockEnds octets place at f

-- the same, of what a reader looks for
abbrev pub Looks : StoreReader → List ℕ → Sight → Type 0
Looks r octets s = LooksBy r.phase r.codec r.channels (given r) octets s

abbrev pub Ends : StoreReader → List ℕ → ℕ → Found → Type 0
Ends r octets at f = EndsBy r.phase r.codec r.channels (given r) octets at f

-- the octets are less than what a reader looks for
abbrev pub LooksPart : StoreReader → List ℕ → Type 0
LooksPart r octets = (at : ℕ) × Looks r octets (sight.Part at)

-- what reading these octets came to, by its answer
abbrev pub SeeksBy : Option (List ℕ) → Option (List ℕ) → List ℕ → StoreReader
    → Result Found Failed → StoreReader → Type 0
SeeksBy left left' more old (Ok (Whole len)) new = Consumes left left' more
    × Looks old (held new) (sight.Whole len) × (new.inlet.gate ≡ gate.Open)
SeeksBy left left' more old (Ok (Shown w)) new = Consumes left left' more
    × Looks old (held new) (sight.Refused w)
SeeksBy left left' more old (Ok (Cut w)) new = Consumes left left' more × Exhausts left more
    × ((at : ℕ) × Looks old (held new) (sight.Part at) × Ends old (held new) at (Cut w))
SeeksBy left left' more old (Ok End) new = Consumes left left' more × Exhausts left more
    × ((at : ℕ) × Looks old (held new) (sight.Part at) × Ends old (held new) at End)
SeeksBy left left' more old (Ok OverLimit) new = (x : ℕ) × Consumes left left' (more ++ x ∷ [])
    × LooksPart old (held new) × (taken_of new ≡ limit_of new)
SeeksBy left left' more old (Err _) new = Consumes left left' more × LooksPart old (held new)

-- some octets were read, and nothing was given
abbrev pub Seeks : Option (List ℕ) → Option (List ℕ) → StoreReader → Result Found Failed
    → StoreReader → Type 0
Seeks left left' old r new = (more : List ℕ) × SeeksBy left left' more old r new
    × (held old ++ more ≡ held new) × (taken_of new ≡ taken_of old + length more)

-- what reading promises, whatever it answers: what it came to, that nothing is read where the
-- octets held show the answer, that the reader is the same but for what it holds, and that it fails
-- only where the source's faults rose
pub record Sought {S : Type 0} (s : source.Ghosts S) (before after : S) (old : StoreReader)
    (r : Result Found Failed) (new : StoreReader) : Type 0 where
  pub seeks : Seeks (s.left before) (s.left after) old r new
  pub quiet : ((after ≡ before) × (held new ≡ held old) × IsOk r) ⊎ LooksPart old (held old)
  pub phase_is : new.phase ≡ old.phase
  pub same : IsSameReader old new
  pub cause : HasCause (s.faults before) (s.faults after) r

-- the answer that what was found gives, and how many octets it takes
abbrev pub step_of : Result Found Failed → Result Step Failed
step_of (Ok (Whole len)) = Ok step.Ready
step_of (Ok (Shown w)) = Ok (step.Refused w)
step_of (Ok (Cut w)) = Ok (step.Refused w)
step_of (Ok End) = Ok step.End
step_of (Ok OverLimit) = Ok step.OverLimit
step_of (Err e) = Err e

abbrev pub len_of : Result Found Failed → ℕ
len_of (Ok (Whole len)) = len
len_of _ = 0

-- how far a reader is behind an answer
abbrev pub phase_after : Result Step Failed → Phase
phase_after (Ok step.Ready) = phase.Open
phase_after (Ok step.End) = phase.Ended
phase_after _ = phase.Spent

-- what was found was taken, and the answer given
pub record Settles (old : StoreReader) (found : Result Found Failed) (r : Result Step Failed)
    (new : StoreReader) : Type 0 where
  pub answer : r ≡ step_of found
  pub left : held new ≡ drop (len_of found) (held old)
  pub phase_is : new.phase ≡ phase_after r
  pub taken : taken_of new ≡ taken_of old
  pub gate : new.inlet.gate ≡ old.inlet.gate
  pub same : IsSameReader old new

-- the block that was found stands first in the octets held
abbrev pub HasBlock : StoreReader → Result Found Failed → Type 0
HasBlock r (Ok (Whole len)) = HoldsFrames r.codec r.channels (held r) len
HasBlock r _ = Unit {0}

-- the block that was found stands in the cells, and they are as before where none was
abbrev pub FillsCells : StoreReader → Result Found Failed → List Cell → List Cell → Type 0
FillsCells r (Ok (Whole len)) cells cells' = ReadsBlock r.codec (take len (held r)) cells'
    × (length cells' ≡ length cells)
FillsCells r _ cells cells' = cells' ≡ cells
