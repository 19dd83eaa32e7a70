-- Where the packets of a segment stand.
use Rattle.std.specs.Prelude.{◌≡◌, ◌↔◌, List, ◌∷◌, ◌++◌, ℤ, pos, ◌+ℤ◌, ◌≤ℤ◌, Some}
use Rattle.amr_frame.specs.Tables.{ticks}
use Rattle.spec_session.specs.Packets.{Packet}
use Rattle.spec_session.specs.Places.{IsPlaceOf}
use Rattle.spec_session.specs.Session.{Rules, Accepted, begun, greatest_last, last_place}

-- u is a place of a packet in a segment: by the timestamp of the packet that began the segment,
-- near the horizon of those accepted in it so far
abbrev pub IsPlaceIn : Rules → Accepted → List Accepted → Packet → ℤ → Type 0
IsPlaceIn rules start between x u = let h = greatest_last rules start between in
    IsPlaceOf (ticks rules.codec) start.packet.timestamp x.timestamp h u

-- a packet of a segment stands behind others, the first of which began it: it is of their source,
-- it has one place, and its last place is within reach of their horizon
pub record StandsBehind (rules : Rules) (start : Accepted) (between : List Accepted) (a : Accepted)
    : Type 0 where
  pub source : a.packet.ssrc ≡ start.packet.ssrc
  pub before : a.before ≡ Some (greatest_last rules start between)
  pub place : (u : ℤ) → IsPlaceIn rules start between a.packet u ↔ (u ≡ a.place)
  pub reach : last_place rules a ≤ℤ (greatest_last rules start between +ℤ pos rules.reach)

-- the first packet of a segment began it, with place 0, and each later one stands behind those
-- before it
pub record IsSegment (rules : Rules) (segment : List Accepted) : Type 0 where
  pub start : (start : Accepted) (rest : List Accepted)
      → segment ≡ start ∷ rest → start ≡ begun start.packet
  pub behind : (start a : Accepted) (between after : List Accepted)
      → segment ≡ start ∷ between ++ a ∷ after → StandsBehind rules start between a
