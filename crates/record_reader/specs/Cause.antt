-- Why a reader of records gives each of its answers. The limit is ours.
use Rattle.std.specs.Prelude.{◌≡◌, ℕ, ◌≤◌, ◌<◌, List, [], ◌++◌, take, length, Option, Result, Ok, IfSome, IfOk}
use Rattle.amr_io.specs.declared.source.Failed.{Failed}
use Rattle.spec_packet.specs.Records.{IsRecord, IsPartial}
use Rattle.record_reader.specs.declared.next.Next.{Next}
use Rattle.record_reader.specs.declared.next.Next.TheVariants.{Record, End, Truncated, OverLimit}
use Rattle.record_reader.specs.Record.{IsFirst}

-- the cause of an answer in the octets that were not given yet, `room` of which the limit allows
abbrev pub Tells : ℕ → ℕ → List ℕ → ℕ → Next → Type 0
Tells head at octets room (Record r) = IsFirst head at octets room r.now
Tells head at octets room End = octets ≡ []
Tells head at octets room (Truncated have) = (length octets ≡ have) × (0 < have) × (have ≤ room)
    × IsPartial head at octets
Tells head at octets room OverLimit = (room < length octets) × IsPartial head at (take room octets)

-- where the octets left are told and the call is served, they and those held are the answer's cause
abbrev pub TellsIn : ℕ → ℕ → Option (List ℕ) → List ℕ → ℕ → Result Next Failed → Type 0
TellsIn head at left held room r = IfSome left (λ all. IfOk r
    (λ next. Tells head at (held ++ all) room next))

-- what is lent is one record
abbrev pub LendsRecord : ℕ → ℕ → Result Next Failed → Type 0
LendsRecord head at (Ok (Record r)) = IsRecord head at r.now
LendsRecord head at _ = Unit {0}

-- the end is given again: on the edge of a record, or inside one
abbrev pub EndsAgain : List ℕ → Result Next Failed → Type 0
EndsAgain rest (Ok End) = rest ≡ []
EndsAgain rest (Ok (Truncated have)) = (length rest ≡ have) × (0 < have)
EndsAgain rest _ = ⊥
