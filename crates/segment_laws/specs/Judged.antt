-- What makes each verdict on a packet, by places as a relation and not as they are computed. The
-- last segment is the one that a packet began and others joined since.
use Rattle.std.specs.Prelude.{◌≡◌, ◌≢◌, true, false, List, ℕ, ℤ, pos, ◌+ℤ◌, ◌≤ℤ◌, ◌<ℤ◌, Some}
use Rattle.amr_frame.specs.Tables.{ticks}
use Rattle.segment_laws.specs.Placed.{IsPlaceIn}
use Rattle.spec_segments.specs.Segments.{SegmentVerdict, Segments, Begins, Within, follows}
use Rattle.spec_session.specs.Packets.{Packet}
use Rattle.spec_session.specs.Places.{apart}
use Rattle.spec_session.specs.Session.{Rules, Accepted, begun, greatest_last, last_place}
use Rattle.spec_session.specs.Session.{Accept, OtherSource, OffGrid, FarAhead}

-- a packet at a place, judged by the horizon of these
abbrev pub put : Rules → Accepted → List Accepted → Packet → ℤ → Accepted
put rules start joined x u =
    record { packet = x; place = u; before = Some (greatest_last rules start joined) }

-- the last place that is within reach
abbrev pub farthest : Rules → Accepted → List Accepted → ℤ
farthest rules start joined = greatest_last rules start joined +ℤ pos rules.reach

-- accepted in the segment: it is of the source, it has a place, and its last place is within reach
pub record IsAccepted (rules : Rules) (start : Accepted) (joined : List Accepted) (x : Packet)
    (a : Accepted) : Type 0 where
  pub source : x.ssrc ≡ start.packet.ssrc
  pub place : IsPlaceIn rules start joined x a.place
  pub is : a ≡ put rules start joined x a.place
  pub reach : last_place rules a ≤ℤ farthest rules start joined

-- begun with it: it is of the source, isn't accepted, and follows the stray
pub record IsBegun (rules : Rules) (s : Segments) (start : Accepted) (joined : List Accepted)
    (x : Packet) (a : Accepted) : Type 0 where
  pub source : x.ssrc ≡ start.packet.ssrc
  pub refused : (b : Accepted) → IsAccepted rules start joined x b → ⊥
  pub next : follows s.stray x.sequence ≡ true
  pub is : a ≡ begun x

-- it is of another source
pub record IsOther (start : Accepted) (x : Packet) (k g : ℕ) : Type 0 where
  pub source : x.ssrc ≢ start.packet.ssrc
  pub kept : k ≡ start.packet.ssrc
  pub got : g ≡ x.ssrc

-- it is of the source, has no place, and doesn't follow the stray
pub record IsOffGrid (rules : Rules) (s : Segments) (start : Accepted) (joined : List Accepted)
    (x : Packet) (d : ℤ) : Type 0 where
  pub source : x.ssrc ≡ start.packet.ssrc
  pub unplaced : (u : ℤ) → IsPlaceIn rules start joined x u → ⊥
  pub next : follows s.stray x.sequence ≡ false
  pub delta : d ≡ apart (ticks rules.codec) start.packet.timestamp x.timestamp
      (greatest_last rules start joined)

-- it is of the source, has a place, its last place is past the reach, and it doesn't follow the
-- stray
pub record IsFarAhead (rules : Rules) (s : Segments) (start : Accepted) (joined : List Accepted)
    (x : Packet) (h l : ℤ) : Type 0 where
  pub source : x.ssrc ≡ start.packet.ssrc
  pub at : ℤ
  pub place : IsPlaceIn rules start joined x at
  pub last : l ≡ last_place rules (put rules start joined x at)
  pub past : farthest rules start joined <ℤ l
  pub next : follows s.stray x.sequence ≡ false
  pub horizon : h ≡ greatest_last rules start joined

-- what makes a verdict
abbrev pub Makes : Rules → Segments → Accepted → List Accepted → Packet → SegmentVerdict → Type 0
Makes rules s start joined x (Begins a) = IsBegun rules s start joined x a
Makes rules s start joined x (Within (Accept a)) = IsAccepted rules start joined x a
Makes rules s start joined x (Within (OtherSource kept got)) = IsOther start x kept got
Makes rules s start joined x (Within (OffGrid delta)) = IsOffGrid rules s start joined x delta
Makes rules s start joined x (Within (FarAhead h last)) = IsFarAhead rules s start joined x h last
