-- What a call for the next record does to a reader of records, once what it lent is given back. The
-- reader is ours.
use Rattle.std.specs.Prelude.{◌≡◌, ℕ, ◌+◌, ◌-◌, ◌≤◌, ◌<◌, ◌^◌, List, [], ◌++◌, length, Option, Result, Ok, Err, IsOk}
use Rattle.std.specs.Io.KnownBytes.{Consumes}
use Rattle.std.specs.Borrow.{MutBor, Fml, RattleType}
use Rattle.std.specs.Io.BufRead.{Rests}
use Rattle.amr_io.specs.declared.source.Failed.{Failed}
use Rattle.spec_packet.specs.Records.{IsRecord}
use Rattle.record_reader.specs.declared.reader.RecordReader.{RecordReader}
use Rattle.record_reader.specs.declared.next.Next.{Next}
use Rattle.record_reader.specs.declared.next.Next.TheVariants.{Record, End, Truncated, OverLimit}
use Rattle.record_reader.specs.contracts.reader.RecordReader.{the_row}
use Rattle.record_reader.specs.Reading.{held, rest, given, taken_of, limit_of, IsOpen, HasEnded, IsOver, IsUsable, Exhausts, Fails, Goes, PassesLimit, Stops}

-- how many octets the record has that was lent
abbrev pub record_octets : Result Next Failed → ℕ
record_octets (Ok (Record r)) = length r.now
record_octets _ = 0

module _ {HEAD AT : ℕ} where
  -- these octets were read, and a record was lent, which stays counted as held
  abbrev pub Brings : Option (List ℕ) → Option (List ℕ) → List ℕ → RecordReader HEAD AT → List ℕ
      → RecordReader HEAD AT → Type 0
  Brings left left' more old first new = Consumes left left' more
      × (rest old ++ more ≡ first ++ rest new) × IsRecord HEAD AT first
      × (length first + length (rest new) ≤ HEAD + (2 ^ 16 - 1)) × IsOpen new

  -- what a call that read these octets did, by its answer
  abbrev pub Gives : Option (List ℕ) → Option (List ℕ) → List ℕ → RecordReader HEAD AT
      → Result Next Failed → RecordReader HEAD AT → Type 0
  Gives left left' more old (Ok (Record r)) new = Brings left left' more old r.now new
  Gives left left' more old (Ok End) new = Consumes left left' more × Stops more old new
      × Exhausts left more
      × (rest new ≡ []) × HasEnded new
  Gives left left' more old (Ok (Truncated have)) new = Consumes left left' more
      × Stops more old new × Exhausts left more
      × (length (rest new) ≡ have) × (0 < have) × HasEnded new
  Gives left left' more old (Ok OverLimit) new = PassesLimit left left' more old new
  Gives left left' more old (Err _) new = Fails left left' more old new

  -- some octets were read, and the reader went on
  abbrev pub GoesOn : Option (List ℕ) → Option (List ℕ) → RecordReader HEAD AT
      → Result Next Failed → RecordReader HEAD AT → Type 0
  GoesOn left left' old r new = Goes (λ more. Gives left left' more old r new) old new

-- the octets given rise by those of the record, and they and those taken stay within the limit; no
-- more are held than a whole record; an end stays; only a fault spends the reader
pub record Counts {HEAD AT : ℕ} (old : RecordReader HEAD AT) (r : Result Next Failed)
    (new : RecordReader HEAD AT) : Type 0 where
  pub rises : given new ≡ given old + record_octets r
  pub limit : limit_of new ≡ limit_of old
  pub within : given new ≤ limit_of new
  pub taken : taken_of new ≤ limit_of new
  pub few : length (held new) ≤ HEAD + (2 ^ 16 - 1)
  pub ended : HasEnded old → (rest new ≡ rest old) × HasEnded new
  pub over : IsOver old → (rest new ≡ rest old) × IsOver new
  pub usable : IsOk r → IsUsable new

-- what the reader is once the record is given back
abbrev pub RestsAt : (H A : RattleType) → MutBor (the_row H A).Denot
    → ((the_row H A).Denot → Type 0) → Fml
RestsAt H A s becomes = Rests (the_row H A) s becomes

-- what a call makes of the reader: its counts, and how it went on where it was open
pub record Leaves {HEAD AT : ℕ} (left left' : Option (List ℕ)) (old : RecordReader HEAD AT)
    (r : Result Next Failed) (new : RecordReader HEAD AT) : Type 0 where
  pub counts : Counts old r new
  pub goes : IsOpen old → GoesOn left left' old r new
