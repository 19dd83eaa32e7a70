-- Why a reader of a log gives each of its answers (RFC 4571, 2). The limit is ours.
use Rattle.std.specs.Prelude.{◌≡◌, ℕ, ◌≤◌, ◌<◌, List, [], ◌++◌, take, length, Option, Result, Ok, IfSome, IfOk}
use Rattle.amr_io.specs.declared.source.Failed.{Failed}
use Rattle.spec_packet.specs.Log.{IsPartial}
use Rattle.rtp_packet.specs.declared.next.Next.{Next}
use Rattle.rtp_packet.specs.declared.next.Next.TheVariants.{Packet, Null, End, Truncated, OverLimit}
use Rattle.rtp_packet.specs.Record.{IsFirst}

-- the cause of an answer in the octets that were not given yet, `room` of which the limit allows
abbrev pub Tells : List ℕ → ℕ → Next → Type 0
Tells octets room (Packet p) = IsFirst octets room p.now × (0 < length p.now)
Tells octets room Null = IsFirst octets room []
Tells octets room End = octets ≡ []
Tells octets room (Truncated have) = (length octets ≡ have) × (0 < have) × (have ≤ room)
    × IsPartial octets
Tells octets room OverLimit = (room < length octets) × IsPartial (take room octets)

-- where the octets left are told and the call is served, they and those held are the answer's cause
abbrev pub TellsIn : Option (List ℕ) → List ℕ → ℕ → Result Next Failed → Type 0
TellsIn left held room r = IfSome left (λ all. IfOk r (λ next. Tells (held ++ all) room next))

-- the end is given again: on the edge of a record, or inside one
abbrev pub EndsAgain : List ℕ → Result Next Failed → Type 0
EndsAgain rest (Ok End) = rest ≡ []
EndsAgain rest (Ok (Truncated have)) = (length rest ≡ have) × (0 < have)
EndsAgain rest _ = ⊥

-- the same answer, with the same octets or the same count
abbrev pub IsSameAnswer : Next → Next → Type 0
IsSameAnswer (Packet p) (Packet q) = p.now ≡ q.now
IsSameAnswer Null Null = Unit {0}
IsSameAnswer End End = Unit {0}
IsSameAnswer (Truncated have) (Truncated other) = have ≡ other
IsSameAnswer OverLimit OverLimit = Unit {0}
IsSameAnswer _ _ = ⊥
