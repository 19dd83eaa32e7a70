-- Which packets of a session are accepted and where they stand: this project's own. The session is that of
-- the first well-formed packet's source (SSRC, RFC 3550, 5.1).
use Rattle.std.specs.Prelude.{ℕ, ◌-◌, ◌*◌, ◌/◌, cond, nat_eq, List, [], ◌∷◌, ◌++◌, length, fold, ℤ, pos, ◌+ℤ◌, int_le, Option, Some, None}
use Rattle.std.specs.Int.{int_max}
use Rattle.amr_frame.specs.declared.codec.Codec.{Codec}
use Rattle.amr_frame.specs.declared.profile.Profile.{Profile}
use Rattle.amr_frame.specs.Tables.{ticks}
use Rattle.spec_payload.specs.Values.{Value}
use Rattle.spec_session.specs.Packets.{Packet}
use Rattle.spec_session.specs.Places.{apart, place_near}

-- what a receiver goes by: the codec, the number of channels, the window and the reach, both in frame times
pub record Rules : Type 0 where
  pub codec : Codec
  pub channels : ℕ
  pub window : ℕ
  pub reach : ℕ

abbrev pub rules_of : Profile → ℕ → ℕ → Rules
rules_of p window reach = record { codec = p.codec; channels = p.channels; window = window; reach = reach }

-- an accepted packet, its place, and the horizon before it; before the first packet there is none
pub record Accepted : Type 0 where
  pub packet : Packet
  pub place : ℤ
  pub before : Option ℤ

-- how many blocks a payload has
abbrev pub blocks_in : Rules → Value → ℕ
blocks_in rules v = length v.frames / rules.channels

-- the place of block k, and of the last block
abbrev pub block_place : Accepted → ℕ → ℤ
block_place a k = a.place +ℤ pos (k * a.packet.value.stride)

abbrev pub last_place : Rules → Accepted → ℤ
last_place rules a = block_place a (blocks_in rules a.packet.value - 1)

-- the greatest last place of accepted packets, the first of which is a
abbrev pub greatest_last : Rules → Accepted → List Accepted → ℤ
greatest_last rules a rest = fold (λ h x. int_max h (last_place rules x)) (last_place rules a) rest

-- the horizon: the greatest last place of all accepted packets
abbrev pub horizon_of : Rules → List Accepted → Option ℤ
horizon_of rules [] = None
horizon_of rules (a ∷ rest) = Some (greatest_last rules a rest)

-- what becomes of a packet: it is accepted, or refused with S1 (another source), S2 (off the grid of frame
-- times) or S3 (too far ahead of the horizon)
pub data Verdict : Type 0 where
  Accept : Accepted → Verdict
  OtherSource : (kept got : ℕ) → Verdict
  OffGrid : (delta : ℤ) → Verdict
  FarAhead : (horizon last : ℤ) → Verdict

-- the first packet has place 0
abbrev pub begun : Packet → Accepted
begun x = record { packet = x; place = pos 0; before = None }

abbrev pub within_reach : Rules → ℤ → Accepted → Verdict
within_reach rules h a = cond (int_le (last_place rules a) (h +ℤ pos rules.reach)) (Accept a) (FarAhead h (last_place rules a))

abbrev pub at_place : Rules → ℤ → Packet → ℤ → Option ℤ → Verdict
at_place rules h x delta None = OffGrid delta
at_place rules h x delta (Some u) = within_reach rules h (record { packet = x; place = u; before = Some h })

-- the verdict on a later packet, given the first one and the horizon
abbrev pub later : Rules → Packet → ℤ → Packet → Verdict
later rules start h x = cond (nat_eq x.ssrc start.ssrc)
    (at_place rules h x (apart (ticks rules.codec) start.timestamp x.timestamp h)
    (place_near (ticks rules.codec) start.timestamp x.timestamp h))
    (OtherSource start.ssrc x.ssrc)

-- the verdict on a packet after these accepted ones
abbrev pub verdict : Rules → List Accepted → Packet → Verdict
verdict rules [] x = Accept (begun x)
verdict rules (a ∷ rest) x = later rules a.packet (greatest_last rules a rest) x

abbrev pub taken : Verdict → List Accepted
taken (Accept a) = a ∷ []
taken (OtherSource kept got) = []
taken (OffGrid delta) = []
taken (FarAhead h last) = []

-- the accepted ones with those that one packet more gives
abbrev pub with_packet : Rules → List Accepted → Packet → List Accepted
with_packet rules before x = before ++ taken (verdict rules before x)

-- the accepted packets of a list of well-formed ones, in order
abbrev pub accepted : Rules → List Packet → List Accepted
accepted rules h = fold (with_packet rules) [] h

-- the horizon after these packets; none where there are none
abbrev pub horizon : Rules → List Packet → Option ℤ
horizon rules h = horizon_of rules (accepted rules h)
