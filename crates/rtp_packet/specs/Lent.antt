-- What a call for the next record does to a reader of a log, once what it lent is given back. The
-- reader is ours.
use Rattle.std.specs.Prelude.{◌≡◌, ℕ, ◌+◌, ◌≤◌, ◌<◌, ◌^◌, List, [], ◌∷◌, ◌++◌, length, Option, Result, Ok, Err, IsOk}
use Rattle.std.specs.Io.KnownBytes.{Consumes}
use Rattle.std.specs.Borrow.{MutBor, Fml}
use Rattle.std.specs.Io.BufRead.{Rests}
use Rattle.amr_io.specs.declared.source.Failed.{Failed}
use Rattle.spec_packet.specs.Log.{framed}
use Rattle.rtp_packet.specs.declared.log_reader.LogReader.{LogReader}
use Rattle.rtp_packet.specs.declared.next.Next.{Next}
use Rattle.rtp_packet.specs.declared.next.Next.TheVariants.{Packet, Null, End, Truncated, OverLimit}
use Rattle.rtp_packet.specs.contracts.log_reader.LogReader.{the_row}
use Rattle.rtp_packet.specs.Record.{IsWhole}
use Rattle.rtp_packet.specs.Reading.{held, rest, given, taken_of, limit_of, IsOpen, HasEnded, IsOver, IsSpent, IsUsable, Exhausts, Stops}

-- these octets were read, and a record was lent, which stays counted as held
abbrev pub Brings : Option (List ℕ) → Option (List ℕ) → List ℕ → LogReader → List ℕ → LogReader
    → Type 0
Brings left left' more old packet new = Consumes left left' more
    × (rest old ++ more ≡ framed packet ++ rest new) × (length packet < 2 ^ 16)
    × (2 + length packet + length (rest new) ≤ 2 ^ 16 + 1) × IsOpen new

-- what a call that read these octets did, by its answer
abbrev pub Gives : Option (List ℕ) → Option (List ℕ) → List ℕ → LogReader → Result Next Failed
    → LogReader → Type 0
Gives left left' more old (Ok (Packet p)) new = Brings left left' more old p.now new
    × (0 < length p.now)
Gives left left' more old (Ok Null) new = Brings left left' more old [] new
Gives left left' more old (Ok End) new = Consumes left left' more × Stops more old new
    × Exhausts left more × (rest new ≡ []) × HasEnded new
Gives left left' more old (Ok (Truncated have)) new = Consumes left left' more
    × Stops more old new × Exhausts left more × (length (rest new) ≡ have) × (0 < have)
    × HasEnded new
Gives left left' more old (Ok OverLimit) new = (x : ℕ) × Consumes left left' (more ++ x ∷ [])
    × Stops more old new × (taken_of new ≡ limit_of new) × IsOver new
Gives left left' more old (Err _) new = Consumes left left' more × Stops more old new
    × IsSpent new

-- some octets were read, none where a record was held, and the reader went on
abbrev pub GoesOn : Option (List ℕ) → Option (List ℕ) → LogReader → Result Next Failed → LogReader
    → Type 0
GoesOn left left' old r new = (more : List ℕ) × Gives left left' more old r new
    × (taken_of new ≡ taken_of old + length more) × (limit_of new ≡ limit_of old)
    × (IsWhole (rest old) → more ≡ [])

-- how many octets a record has whose packet was lent
abbrev pub record_octets : Result Next Failed → ℕ
record_octets (Ok (Packet p)) = 2 + length p.now
record_octets (Ok Null) = 2
record_octets _ = 0

-- the octets given rise by those of the record, and they and those taken stay within the limit; no
-- more are held than a whole record; an end stays; only a fault spends the reader
pub record Counts (old : LogReader) (r : Result Next Failed) (new : LogReader) : Type 0 where
  pub rises : given new ≡ given old + record_octets r
  pub limit : limit_of new ≡ limit_of old
  pub within : given new ≤ limit_of new
  pub taken : taken_of new ≤ limit_of new
  pub few : length (held new) ≤ 2 ^ 16 + 1
  pub ended : HasEnded old → (rest new ≡ rest old) × HasEnded new
  pub over : IsOver old → (rest new ≡ rest old) × IsOver new
  pub usable : IsOk r → IsUsable new

-- what the reader is once the record is given back: its counts, and how it went on where it was
-- open
abbrev pub RestsAt : MutBor LogReader → LogReader → Option (List ℕ) → Option (List ℕ)
    → Result Next Failed → Fml
RestsAt s old left left' r =
    Rests the_row s (λ new. Counts old r new × (IsOpen old → GoesOn left left' old r new))
