-- What a reader of records holds, and how far a step takes it. The reader is ours.
use Rattle.std.specs.Prelude.{◌≡◌, ◌≢◌, ℕ, ◌+◌, ◌-◌, ◌≤◌, ◌<◌, ◌^◌, List, [], ◌∷◌, ◌++◌, take, drop, length, Option, Result, Ok, Err, IfSome, IfOk, IsOk}
use Rattle.std.specs.Io.KnownBytes.{Consumes}
use Rattle.amr_io.specs.Fault.{HasCause}
use Rattle.amr_io.specs.declared.gate.Gate.TheVariants as gate
use Rattle.amr_io.specs.declared.source.Source as source
use Rattle.amr_io.specs.declared.source.Failed.{Failed}
use Rattle.spec_packet.specs.Records.{IsRecord, IsPartial, IsWhole}
use Rattle.record_reader.specs.declared.reader.RecordReader.{RecordReader}
use Rattle.record_reader.specs.declared.next.Step.{Step}
use Rattle.record_reader.specs.declared.next.Step.TheVariants.{Record, End, OverLimit}
use Rattle.record_reader.specs.Record.{IsFirst}

module _ {HEAD AT : ℕ} where
  -- the octets held, the record that was lent last included
  abbrev pub held : RecordReader HEAD AT → List ℕ
  held r = r.inlet.held

  -- the octets held behind the record that was lent last
  abbrev pub rest : RecordReader HEAD AT → List ℕ
  rest r = drop r.lent r.inlet.held

  -- the record that was lent last
  abbrev pub lent : RecordReader HEAD AT → List ℕ
  lent r = take r.lent r.inlet.held

  -- how many octets were taken from the source
  abbrev pub taken_of : RecordReader HEAD AT → ℕ
  taken_of r = r.inlet.taken

  -- how many octets may be taken
  abbrev pub limit_of : RecordReader HEAD AT → ℕ
  limit_of r = r.inlet.limit

  -- how many octets stood in the records that were given
  abbrev pub given : RecordReader HEAD AT → ℕ
  given r = r.inlet.taken - length (rest r)

  -- the next call reads where no record is whole
  abbrev pub IsOpen : RecordReader HEAD AT → Type 0
  IsOpen r = r.inlet.gate ≡ gate.Open

  -- the source ended
  abbrev pub HasEnded : RecordReader HEAD AT → Type 0
  HasEnded r = r.inlet.gate ≡ gate.End

  -- one octet came past the limit
  abbrev pub IsOver : RecordReader HEAD AT → Type 0
  IsOver r = r.inlet.gate ≡ gate.OverLimit

  -- a read failed: no further call may be made
  abbrev pub IsSpent : RecordReader HEAD AT → Type 0
  IsSpent r = r.inlet.gate ≡ gate.Spent

  -- no read failed: the next record may be asked for
  abbrev pub IsUsable : RecordReader HEAD AT → Type 0
  IsUsable r = r.inlet.gate ≢ gate.Spent

  -- nothing was read yet
  abbrev pub IsFresh : RecordReader HEAD AT → Type 0
  IsFresh r = IsOpen r × (held r ≡ []) × (rest r ≡ []) × (taken_of r ≡ 0)

  -- these octets were read, and no record is whole
  abbrev pub Stops : List ℕ → RecordReader HEAD AT → RecordReader HEAD AT → Type 0
  Stops more old new = (rest old ++ more ≡ rest new) × IsPartial HEAD AT (rest new)
      × (length (rest new) < HEAD + (2 ^ 16 - 1))

-- these are all that were left, where that was told
abbrev pub Exhausts : Option (List ℕ) → List ℕ → Type 0
Exhausts left octets = IfSome left (λ all. all ≡ octets)

module _ {HEAD AT : ℕ} where
  -- these octets were read, and one past the limit
  abbrev pub PassesLimit : Option (List ℕ) → Option (List ℕ) → List ℕ → RecordReader HEAD AT
      → RecordReader HEAD AT → Type 0
  PassesLimit left left' more old new = (x : ℕ) × Consumes left left' (more ++ x ∷ [])
      × Stops more old new
      × (taken_of new ≡ limit_of new) × IsOver new

  -- these octets were read, and then a read failed
  abbrev pub Fails : Option (List ℕ) → Option (List ℕ) → List ℕ → RecordReader HEAD AT
      → RecordReader HEAD AT → Type 0
  Fails left left' more old new = Consumes left left' more × Stops more old new × IsSpent new

  -- some octets were read, none where a record was held, with which it did so; it took so many
  -- more, and keeps its limit
  abbrev pub Goes : (List ℕ → Type 0) → RecordReader HEAD AT → RecordReader HEAD AT → Type 0
  Goes did old new = (more : List ℕ) × did more × (taken_of new ≡ taken_of old + length more)
      × (limit_of new ≡ limit_of old) × (IsWhole HEAD AT (rest old) → more ≡ [])

  -- what a step that read these octets did, by its answer
  abbrev pub Steps : Option (List ℕ) → Option (List ℕ) → List ℕ → RecordReader HEAD AT
      → Result Step Failed → RecordReader HEAD AT → Type 0
  Steps left left' more old (Ok Record) new = Consumes left left' more
      × (rest old ++ more ≡ lent new ++ rest new)
      × IsRecord HEAD AT (lent new) × IsOpen new
  Steps left left' more old (Ok End) new = Consumes left left' more × Stops more old new
      × Exhausts left more × HasEnded new
  Steps left left' more old (Ok OverLimit) new = PassesLimit left left' more old new
  Steps left left' more old (Err _) new = Fails left left' more old new

  -- some octets were read, and the reader went a step
  abbrev pub Advances : Option (List ℕ) → Option (List ℕ) → RecordReader HEAD AT
      → Result Step Failed → RecordReader HEAD AT → Type 0
  Advances left left' old r new = Goes (λ more. Steps left left' more old r new) old new

  -- what a step that is served shows of the octets that were not given yet, `room` of which the
  -- limit allows
  abbrev pub Shows : List ℕ → ℕ → RecordReader HEAD AT → Step → Type 0
  Shows octets room new Record = IsFirst HEAD AT octets room (lent new)
  Shows octets room new End = (octets ≡ rest new) × (length octets ≤ room)
      × IsPartial HEAD AT octets
  Shows octets room new OverLimit = (room < length octets) × IsPartial HEAD AT (take room octets)

  -- it shows that of the octets held and left, where those left are told
  abbrev pub ShowsIn : Option (List ℕ) → RecordReader HEAD AT → Result Step Failed
      → RecordReader HEAD AT → Type 0
  ShowsIn left old r new = IfSome left (λ all. IfOk r
      (λ step. Shows (rest old ++ all) (limit_of old - given old) new step))

  -- where a record is lent, it is one, and the octets given rise by its own
  abbrev pub Shifts : RecordReader HEAD AT → Result Step Failed → RecordReader HEAD AT → Type 0
  Shifts old r new = IfOk r (λ step. step ≡ Record → IsRecord HEAD AT (lent new)
      × (given new ≡ given old + new.lent))

  -- the reader holds and took what it had
  abbrev pub Stays : RecordReader HEAD AT → RecordReader HEAD AT → Type 0
  Stays old new = (rest new ≡ rest old) × (new.inlet.gate ≡ old.inlet.gate)
      × (taken_of new ≡ taken_of old) × (limit_of new ≡ limit_of old)

  -- an end is given again, with no read
  abbrev pub Repeats : {S : Type 0} → RecordReader HEAD AT → Result Step Failed
      → RecordReader HEAD AT → S → S → Type 0
  Repeats old r new before after =
      (HasEnded old → (r ≡ Ok End) × Stays old new × (after ≡ before))
      × (IsOver old → (r ≡ Ok OverLimit) × Stays old new × (after ≡ before))

-- what every step promises, whatever it answers: how it goes on, that an end is given again, what
-- is lent, that nothing is read where a record is held, and that it fails only where the source's
-- faults rose
pub record Moves {HEAD AT : ℕ} {S : Type 0} (s : source.Ghosts S) (before after : S)
    (old : RecordReader HEAD AT) (r : Result Step Failed) (new : RecordReader HEAD AT)
    : Type 0 where
  pub goes : IsOpen old → Advances (s.left before) (s.left after) old r new
  pub again : Repeats old r new before after
  pub lends : Shifts old r new
  pub no_read : IsWhole HEAD AT (rest old) → (after ≡ before) × IsOk r
  pub cause : HasCause (s.faults before) (s.faults after) r
