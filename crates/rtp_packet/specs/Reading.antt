-- What a reader of a log holds. The reader is ours; records are those of RFC 4571, 2.
use Rattle.std.specs.Prelude.{◌≡◌, ℕ, ◌+◌, ◌<◌, ◌^◌, List, [], ◌++◌, length, Option, IfSome}
use Rattle.spec_packet.specs.Log.{IsPartial}
use Rattle.record_reader.specs.Reading as reader
use Rattle.rtp_packet.specs.declared.log_reader.LogReader.{LogReader}

-- the octets held, the record that was lent last included
abbrev pub held : LogReader → List ℕ
held r = reader.held r.records

-- the octets held behind the record that was lent last
abbrev pub rest : LogReader → List ℕ
rest r = reader.rest r.records

-- how many octets were taken from the source
abbrev pub taken_of : LogReader → ℕ
taken_of r = reader.taken_of r.records

-- how many octets may be taken
abbrev pub limit_of : LogReader → ℕ
limit_of r = reader.limit_of r.records

-- how many octets stood in the records that were given
abbrev pub given : LogReader → ℕ
given r = reader.given r.records

-- the next call reads where no record is whole
abbrev pub IsOpen : LogReader → Type 0
IsOpen r = reader.IsOpen r.records

-- the source ended
abbrev pub HasEnded : LogReader → Type 0
HasEnded r = reader.HasEnded r.records

-- one octet came past the limit
abbrev pub IsOver : LogReader → Type 0
IsOver r = reader.IsOver r.records

-- a read failed: no further call may be made
abbrev pub IsSpent : LogReader → Type 0
IsSpent r = reader.IsSpent r.records

-- no read failed: the next record may be asked for
abbrev pub IsUsable : LogReader → Type 0
IsUsable r = reader.IsUsable r.records

-- nothing was read yet
abbrev pub IsFresh : LogReader → Type 0
IsFresh r = IsOpen r × (held r ≡ []) × (rest r ≡ []) × (taken_of r ≡ 0)

-- these are all that were left, where that was told
abbrev pub Exhausts : Option (List ℕ) → List ℕ → Type 0
Exhausts left octets = IfSome left (λ all. all ≡ octets)

-- these octets were read, and no record is whole
abbrev pub Stops : List ℕ → LogReader → LogReader → Type 0
Stops more old new = (rest old ++ more ≡ rest new) × IsPartial (rest new)
    × (length (rest new) < 2 ^ 16 + 1)
