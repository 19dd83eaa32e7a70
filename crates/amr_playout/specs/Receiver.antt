-- What contracts see of a receiver, and what it stands for. This project's own.
use Rattle.std.specs.Prelude.{◌≡◌, ℕ, ◌+◌, ◌-◌, ◌*◌, ◌^◌, ◌<◌, ◌≤◌, ◌⊎◌, Bool, false, List, length, ℤ, Option, Some, None, option_map}
use Rattle.amr_frame.specs.Frames.{Frame}
use Rattle.amr_playout.specs.declared.answers.Kept.{Kept}
use Rattle.amr_playout.specs.declared.plan.Plan.{Plan}
use Rattle.amr_playout.specs.declared.receiver.Receiver.TheInside.{Inside}
use Rattle.amr_playout.specs.declared.session.Begun.{Begun}
use Rattle.amr_playout.specs.Plans.{rules_in}
use Rattle.amr_playout.specs.Ring.{IsRing}
use Rattle.amr_playout.specs.Standing.{Holds, IsBelow, IsInside}
use Rattle.amr_playout.specs.Window.{at, held_of}
use Rattle.spec_segments.specs.Counts.{copy_count, late_count}
use Rattle.spec_segments.specs.Release.{gone_out}
use Rattle.spec_segments.specs.Segments.{segments}
use Rattle.spec_session.specs.Packets.{Packet}
use Rattle.spec_session.specs.Session.{Rules}

-- the plan; the last segment, where one has begun, and its number from 0; the stray, which is the
-- sequence number of the last packet of the source, if that was refused; what each cell of the
-- window holds, by places and then by channels; the counts; and whether the receiver was ended or
-- its sink has failed
pub record View : Type 0 where
  pub plan : Plan
  pub session : Option Begun
  pub segment : ℕ
  pub stray : Option ℕ
  pub cells : List (Option Frame)
  pub counts : Kept
  pub spent : Bool

abbrev pub view_of : Inside → View
view_of r = record {
  plan = r.plan;
  session = r.session;
  segment = r.segment;
  stray = r.stray;
  cells = held_of r.ring.items;
  counts = r.counts;
  spent = r.spent;
}

-- what holds of every receiver; one that isn't spent has room to count the blocks of a window more
pub record IsReceiver (r : Inside) : Type 0 where
  pub ring : IsRing r.plan r.ring
  pub inside : IsInside (rules_in r.plan) r.session
  pub few : r.spent ≡ false → r.counts.blocks < 2 ^ 64 - 4096

-- the counts are those of these packets
pub record Counted (rules : Rules) (counts : Kept) (h : List Packet) : Type 0 where
  pub late : counts.late ≡ late_count rules h
  pub copies : counts.copies ≡ copy_count rules h
  pub blocks : counts.blocks ≡ length (gone_out rules h)

-- the receiver stands for these well-formed packets: it keeps their last segment, with its number
-- and the stray, and its counts are theirs
pub record StandsFor (v : View) (h : List Packet) : Type 0 where
  pub unspent : v.spent ≡ false
  pub kept : Holds (rules_in v.plan) v.session v.cells (segments (rules_in v.plan) h).last
  pub number : v.segment ≡ length (segments (rules_in v.plan) h).closed
  pub stray : v.stray ≡ (segments (rules_in v.plan) h).stray
  pub counted : Counted (rules_in v.plan) v.counts h

-- it takes packets: no call failed, and neither places nor segments nor counts are near what they
-- can be
pub record TakesPackets (v : View) : Type 0 where
  pub unspent : v.spent ≡ false
  pub below : IsBelow v.session
  pub segment : v.segment < 2 ^ 62
  pub late : v.counts.late < 2 ^ 62
  pub copies : v.counts.copies < 2 ^ 62
  pub blocks : v.counts.blocks < 2 ^ 62

-- the horizon
abbrev pub horizon_in : Option Begun → Option ℤ
horizon_in session = option_map (λ (s : Begun). at s.horizon) session

-- how far a packet of a segment takes its horizon, and how many blocks go out on the way at most
abbrev pub Grows : Plan → Option Begun → Option Begun → ℕ → Type 0
Grows plan before None released = ⊥
Grows plan None (Some s) released = (released ≡ 0) × (s.horizon < 2 ^ 24 + plan.window)
Grows plan (Some t) (Some s) released =
    (t.horizon + released ≤ s.horizon) × (s.horizon ≤ t.horizon + plan.reach)

-- how far the packet takes it that begins a segment, and how many blocks of the one before go out
abbrev pub StartsOver : Plan → Option Begun → ℕ → Type 0
StartsOver plan None released = ⊥
StartsOver plan (Some s) released = (s.horizon < 2 ^ 24 + plan.window) × (released ≤ plan.window)

-- a packet was taken into the segment so far, or began the next one
abbrev pub Moves : View → View → ℕ → Type 0
Moves v v' released =
    ((v'.segment ≡ v.segment) × Grows v.plan v.session v'.session released)
    ⊎ ((v'.segment ≡ v.segment + 1) × StartsOver v.plan v'.session released)

-- it goes by the plan that it did, and has a cell for each place of the window and each channel
pub record KeepsPlan (v v' : View) : Type 0 where
  pub plan : v'.plan ≡ v.plan
  pub room : length v'.cells ≡ v'.plan.window * v'.plan.profile.channels
