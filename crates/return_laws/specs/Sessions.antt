-- Sessions that hear what is sent for blocks: this project's own.
use Rattle.std.specs.Prelude.{◌≡◌, ℕ, ◌+◌, ◌≤◌, false, List, length}
use Rattle.std.specs.List.{AllByRecursion}
use Rattle.amr_frame.specs.Frames.{Frame, IsBlock}
use Rattle.segment_laws.specs.One.{IsOneSegment}
use Rattle.spec_segments.specs.Release.{released}
use Rattle.spec_segments.specs.Segments.{accepted}
use Rattle.spec_sending.specs.Plans.{IsPlan, grouped_blocks}
use Rattle.spec_sending.specs.declared.plan.SendPlan.{SendPlan}
use Rattle.spec_session.specs.Packets.{Packet}
use Rattle.spec_session.specs.Session.{Rules}

-- a valid plan leaves no packet out, and the blocks are of its codec and its channels
pub record AreSent (s : SendPlan) (b : List (List Frame)) : Type 0 where
  pub plan : IsPlan s
  pub all : s.skip_empty ≡ false
  pub blocks : AllByRecursion (IsBlock s.profile.codec s.profile.channels) b

-- the most blocks that stand together, in a group or in a packet with its repeats
abbrev pub span : SendPlan → ℕ
span s = grouped_blocks s + s.repeat

-- a session of the plan's codec and channels, whose window and reach hold what stands together
pub record Hears (rules : Rules) (s : SendPlan) : Type 0 where
  pub codec : rules.codec ≡ s.profile.codec
  pub channels : rules.channels ≡ s.profile.channels
  pub window : span s ≤ rules.window
  pub reach : span s ≤ rules.reach
  pub most : (rules.window ≤ 4096) × (rules.reach ≤ 45000)

-- packets are all accepted, in one segment, and just these blocks are released of them
pub record Releases (rules : Rules) (h : List Packet) (b : List (List Frame)) : Type 0 where
  pub all : length (accepted rules h) ≡ length h
  pub one : IsOneSegment rules h
  pub blocks : released rules h ≡ b
