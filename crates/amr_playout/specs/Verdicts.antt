-- What is found of a packet first: its place, or why it is refused. This project's own.
use Rattle.std.specs.Prelude.{◌≡◌, ℕ, ◌+◌, ◌≤◌, Bool, true, false, ◌&&◌, List, Option, Some}
use Rattle.amr_frame.specs.Frames.{Frame}
use Rattle.amr_playout.specs.declared.answers.Refusal.{Refusal}
use Rattle.amr_playout.specs.declared.answers.Refusal.TheVariants as refusal
use Rattle.amr_playout.specs.declared.plan.Plan.{Plan}
use Rattle.amr_playout.specs.declared.session.Begun.{Begun}
use Rattle.amr_playout.specs.declared.verdict.Spot.{Spot}
use Rattle.amr_playout.specs.declared.verdict.Spot.TheVariants.{Here, Anew}
use Rattle.amr_playout.specs.Heard.{IsReadBy}
use Rattle.amr_playout.specs.Plans.{rules_in}
use Rattle.amr_playout.specs.Refusals.{IsRefusal}
use Rattle.amr_playout.specs.Standing.{Holds, IsBelow, IsInside, IsSeat, last_from, placed}
use Rattle.amr_toc.specs.declared.view.PayloadView.{PayloadView}
use Rattle.spec_payload.specs.Values.{Value}
use Rattle.spec_segments.specs.Segments.{follows}
use Rattle.spec_session.specs.Packets.{Packet}
use Rattle.spec_session.specs.Session.{Accept, Accepted, Rules, verdict}

-- a packet can be judged: its payload was read by the plan's format, and the segment so far stands
-- right and is far below what a place can be
pub record CanJudge (plan : Plan) (before : Option Begun) (payload : PayloadView) : Type 0 where
  pub read : IsReadBy plan payload
  pub inside : IsInside (rules_in plan) before
  pub below : IsBelow before

-- behind all packets that a segment may keep the packet is accepted, at this place
abbrev pub IsSeated : Rules → Option Begun → Packet → ℕ → Type 0
IsSeated rules before x place =
    (cells : List (Option Frame)) (acc : List Accepted) → Holds rules before cells acc
    → verdict rules acc x ≡ Accept (placed before x place)

-- behind all packets that a segment may keep the packet is refused, and why
abbrev pub IsDeclined : Rules → Option Begun → Packet → Refusal → Type 0
IsDeclined rules before x why =
    (cells : List (Option Frame)) (acc : List Accepted) → Holds rules before cells acc
    → IsRefusal (verdict rules acc x) why

-- a payload at a place stands no further past the horizon than the reach
abbrev pub IsWithinReach : Rules → Option Begun → Value → ℕ → Type 0
IsWithinReach rules before payload place =
    (s : Begun) → before ≡ Some s → last_from rules payload place ≤ s.horizon + rules.reach

-- whether a refused packet is of the session's source
abbrev pub is_of_source : Refusal → Bool
is_of_source (refusal.OtherSource kept got) = false
is_of_source (refusal.OffGrid delta) = true
is_of_source (refusal.FarAhead horizon last) = true

-- whether a packet that the segment so far refuses begins a new one: it is of the source, and
-- follows the stray
abbrev pub begins : Option ℕ → ℕ → Refusal → Bool
begins stray sequence why = is_of_source why && follows stray sequence

-- the stray behind a refused packet: that packet, if it is of the source
abbrev pub stray_with : Option ℕ → ℕ → Refusal → Option ℕ
stray_with stray sequence (refusal.OtherSource kept got) = stray
stray_with stray sequence (refusal.OffGrid delta) = Some sequence
stray_with stray sequence (refusal.FarAhead horizon last) = Some sequence

-- the number of the segment that a packet is taken into
abbrev pub segment_with : ℕ → Spot → ℕ
segment_with segment (Here place) = segment
segment_with segment Anew = segment + 1

-- the segment so far accepts the packet at this place
pub record IsHere (rules : Rules) (before : Option Begun) (x : Packet) (place : ℕ) : Type 0 where
  pub seated : IsSeated rules before x place
  pub seat : IsSeat before place
  pub reach : IsWithinReach rules before x.value place

-- it refuses the packet, which begins a new one
pub record IsAnew (rules : Rules) (before : Option Begun) (stray : Option ℕ) (x : Packet)
    : Type 0 where
  pub why : Refusal
  pub declined : IsDeclined rules before x why
  pub next : begins stray x.sequence why ≡ true

-- the packet is taken there
abbrev pub IsFound : Rules → Option Begun → Option ℕ → Packet → Spot → Type 0
IsFound rules before stray x (Here place) = IsHere rules before x place
IsFound rules before stray x Anew = IsAnew rules before stray x

-- the packet is refused by the segment so far, and begins no new one
pub record IsPassed (rules : Rules) (before : Option Begun) (stray : Option ℕ) (x : Packet)
    (why : Refusal) : Type 0 where
  pub declined : IsDeclined rules before x why
  pub alone : begins stray x.sequence why ≡ false
