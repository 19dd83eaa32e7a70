-- What the steps of a receiver do. This project's own.
use Rattle.std.specs.Prelude.{⊤, ◌≡◌, ℕ, ◌+◌, ◌-◌, ◌^◌, ◌<◌, ◌≤◌, ◌++◌, IsTrue, List, [], ◌∷◌, length, Option, Some, None, OnErr, OnOk, Result}
use Rattle.amr_frame.specs.Blocks.{IsPresentBlock}
use Rattle.amr_frame.specs.Frames.{Frame}
use Rattle.amr_frame.specs.Steps.{BlockStep, TakesBlocks}
use Rattle.amr_frame.specs.declared.block_sink.BlockSink as blocks
use Rattle.amr_frame.specs.declared.cell.Cell.{Cell}
use Rattle.amr_frame.specs.declared.codec.Codec.{Codec}
use Rattle.amr_playout.specs.declared.plan.Plan.{Plan}
use Rattle.amr_playout.specs.declared.answers.Taken.{Taken}
use Rattle.amr_playout.specs.declared.session.Begun.{Begun}
use Rattle.amr_playout.specs.declared.step.Step.{Step}
use Rattle.amr_playout.specs.declared.verdict.Spot.{Spot}
use Rattle.amr_playout.specs.declared.verdict.Spot.TheVariants.{Here, Anew}
use Rattle.amr_playout.specs.declared.window.Reached.{Reached}
use Rattle.amr_playout.specs.Gains.{Gains, GainsPart}
use Rattle.amr_playout.specs.Heard.{IsReadBy}
use Rattle.amr_playout.specs.Plans.{rules_in}
use Rattle.amr_playout.specs.Ring.{IsFull, IsRing}
use Rattle.amr_playout.specs.Shown.{Shows}
use Rattle.amr_playout.specs.Standing.{Holds, IsInside, IsNext, IsSeat, ShowsBefore, horizon_with, last_from, out_at, out_before, placed}
use Rattle.amr_playout.specs.Window.{at, held_of, rows}
use Rattle.amr_toc.specs.declared.view.PayloadView.{PayloadView}
use Rattle.circular_buffer.specs.Buffer.{Buffer}
use Rattle.spec_session.specs.Copies.{Copy, copies_in, copies_of}
use Rattle.spec_session.specs.Counts.{different, late_in}
use Rattle.spec_session.specs.Packets.{Packet}
use Rattle.spec_session.specs.Release.{gone_of, released_of}
use Rattle.spec_session.specs.Session.{Accepted, begun}

-- the sink takes blocks of the plan's format
abbrev pub TakesPlan : {S : Type 0} → blocks.Ghosts S → Plan → S → Type 0
TakesPlan b plan sink = TakesBlocks b plan.profile.codec plan.profile.channels sink

-- the sink takes a block, and these cells are one for it
pub record TakesBlock {S : Type 0} (b : blocks.Ghosts S) (sink : S) (cells : List Cell)
    : Type 0 where
  pub ready : IsTrue (b.ready sink)
  pub block : IsPresentBlock (b.codec sink) (b.channels sink) cells

-- the block was put, or where the sink failed a part of it
pub record PutsBlock {S A E : Type 0} (b : blocks.Ghosts S) (old new : S) (block : List Frame)
    (result : Result A E) : Type 0 where
  pub whole : OnOk result (b.whole old block new)
  pub part : OnErr result (b.part old block new)
  pub step : BlockStep b old new result

-- a full ring has room for a block of so many channels, and the sink takes such blocks
pub record CanPush {S : Type 0} (b : blocks.Ghosts S) (codec : Codec) (channels : ℕ)
    (ring : Buffer Cell) (sink : S) : Type 0 where
  pub full : IsFull codec ring
  pub few : channels ≤ 6
  pub room : channels ≤ ring.capacity
  pub takes : TakesBlocks b codec channels sink

-- the blocks that a slide by so many pushes out of a ring, but the first ones that are skipped
abbrev pub pushed_out : ℕ → Buffer Cell → ℕ → ℕ → List (List Frame)
pushed_out channels ring skip count = rows channels (held_of ring.items) skip (count - skip)

-- the ring is that of the plan, the session stands right, and the sink takes the plan's blocks
pub record IsReady {S : Type 0} (b : blocks.Ghosts S) (plan : Plan) (before : Option Begun)
    (ring : Buffer Cell) (sink : S) : Type 0 where
  pub ringed : IsRing plan ring
  pub inside : IsInside (rules_in plan) before
  pub takes : TakesPlan b plan sink

-- a packet can be taken: all is ready, and its payload was read by the plan's format
pub record CanTake {S : Type 0} (b : blocks.Ghosts S) (plan : Plan) (before : Option Begun)
    (payload : PayloadView) (ring : Buffer Cell) (sink : S) : Type 0 where
  pub ready : IsReady b plan before ring sink
  pub read : IsReadBy plan payload

-- the ring is still that of the plan, and the sink took a step
pub record StaysReady {S A E : Type 0} (b : blocks.Ghosts S) (plan : Plan) (ring : Buffer Cell)
    (old new : S) (result : Result A E) : Type 0 where
  pub ringed : IsRing plan ring
  pub step : BlockStep b old new result

-- the copies that a segment and a ring show
abbrev pub Shown : Plan → Option Begun → Buffer Cell → List Copy → Type 0
Shown plan before ring cs = ShowsBefore (rules_in plan) before (held_of ring.items) cs

-- the accepted packets that a segment and a ring keep
abbrev pub Kept : Plan → Option Begun → Buffer Cell → List Accepted → Type 0
Kept plan before ring acc = Holds (rules_in plan) before (held_of ring.items) acc

-- the window was brought up to a horizon: it shows there what it showed before, and the blocks that
-- left it went out
pub record Slides {S : Type 0} (b : blocks.Ghosts S) (plan : Plan) (before : Option Begun)
    (last : ℕ) (ring ring' : Buffer Cell) (old new : S) (r : Reached) : Type 0 where
  pub horizon : r.horizon ≡ last
  pub inside : IsNext (rules_in plan) r.horizon r.next
  pub shows : (cs : List Copy) → Shown plan before ring cs
      → Shows (rules_in plan) (at r.horizon) (at r.next) (held_of ring'.items) cs
  pub out : (cs : List Copy) → Shown plan before ring cs → Gains b.whole old new
      (out_before (rules_in plan) before cs) (out_at (rules_in plan) r.horizon cs)
  pub counted : (cs : List Copy) → Shown plan before ring cs
      → length (out_at (rules_in plan) r.horizon cs)
      ≡ length (out_before (rules_in plan) before cs) + r.released
  pub rise : (s : Begun) → before ≡ Some s → s.horizon + r.released ≤ r.horizon
  pub none : before ≡ None → r.released ≡ 0

-- it was not: a prefix of the blocks that would have left it went out
abbrev pub SlidesPart : {S : Type 0} → blocks.Ghosts S → Plan → Option Begun → ℕ → Buffer Cell
    → S → S → Type 0
SlidesPart b plan before last ring old new = (cs : List Copy) → Shown plan before ring cs
    → GainsPart b.whole b.part old new
    (out_before (rules_in plan) before cs) (out_at (rules_in plan) last cs)

-- a packet was accepted at a place behind the accepted ones before it
pub record Accepts {S : Type 0} (b : blocks.Ghosts S) (plan : Plan) (before : Option Begun)
    (x : Packet) (place : ℕ) (ring ring' : Buffer Cell) (old new : S) (s : Step) : Type 0 where
  pub holds : (acc : List Accepted) → Kept plan before ring acc
      → Kept plan (Some s.session) ring' (acc ++ placed before x place ∷ [])
  pub out : (acc : List Accepted) → Kept plan before ring acc → Gains b.whole old new
      (gone_of (rules_in plan) acc) (gone_of (rules_in plan) (acc ++ placed before x place ∷ []))
  pub counted : (acc : List Accepted) → Kept plan before ring acc
      → length (gone_of (rules_in plan) (acc ++ placed before x place ∷ []))
      ≡ length (gone_of (rules_in plan) acc) + s.released
  pub copies : (acc : List Accepted) → Kept plan before ring acc
      → different (copies_of (rules_in plan) acc
      ++ copies_in (rules_in plan) (placed before x place)) + s.copies
      ≡ different (copies_of (rules_in plan) acc)
      + length (copies_in (rules_in plan) (placed before x place))
  pub late : s.late ≡ late_in (rules_in plan) (placed before x place)
  pub inside : IsInside (rules_in plan) (Some s.session)
  pub horizon : s.session.horizon ≡ horizon_with before (last_from (rules_in plan) x.value place)
  pub fits : last_from (rules_in plan) x.value place < place + plan.window
  pub rise : (t : Begun) → before ≡ Some t → t.horizon + s.released ≤ s.session.horizon
  pub none : before ≡ None → s.released ≡ 0
  pub few : (s.late ≤ 384) × (s.copies ≤ 384)

-- it was not: a prefix of the blocks that would have gone out on it did
abbrev pub AcceptsPart : {S : Type 0} → blocks.Ghosts S → Plan → Option Begun → Packet → ℕ
    → Buffer Cell → S → S → Type 0
AcceptsPart b plan before x place ring old new =
    (acc : List Accepted) → Kept plan before ring acc → GainsPart b.whole b.part old new
    (gone_of (rules_in plan) acc) (gone_of (rules_in plan) (acc ++ placed before x place ∷ []))

-- a segment ended: the rest of it went out, and the ring is that of none
pub record Restarts {S : Type 0} (b : blocks.Ghosts S) (plan : Plan) (before : Option Begun)
    (ring ring' : Buffer Cell) (old new : S) (released : ℕ) : Type 0 where
  pub out : (acc : List Accepted) → Kept plan before ring acc → Gains b.whole old new
      (gone_of (rules_in plan) acc) (released_of (rules_in plan) (copies_of (rules_in plan) acc))
  pub counted : (acc : List Accepted) → Kept plan before ring acc
      → length (released_of (rules_in plan) (copies_of (rules_in plan) acc))
      ≡ length (gone_of (rules_in plan) acc) + released
  pub over : (acc : List Accepted) → Kept plan before ring acc → Kept plan None ring' []
  pub few : released ≤ plan.window

-- it did not end: a prefix of the rest went out
abbrev pub RestartsPart : {S : Type 0} → blocks.Ghosts S → Plan → Option Begun → Buffer Cell
    → S → S → Type 0
RestartsPart b plan before ring old new =
    (acc : List Accepted) → Kept plan before ring acc → GainsPart b.whole b.part old new
    (gone_of (rules_in plan) acc) (released_of (rules_in plan) (copies_of (rules_in plan) acc))

-- a packet began a segment: the rest of the one before went out, and then the packet was accepted
-- as the first
pub record Renews {S : Type 0} (b : blocks.Ghosts S) (plan : Plan) (before : Option Begun)
    (x : Packet) (ring ring' : Buffer Cell) (old new : S) (s : Step) : Type 0 where
  pub holds : (acc : List Accepted) → Kept plan before ring acc
      → Kept plan (Some s.session) ring' (begun x ∷ [])
  pub out : (acc : List Accepted) → Kept plan before ring acc → Gains b.whole old new
      (gone_of (rules_in plan) acc) (released_of (rules_in plan) (copies_of (rules_in plan) acc)
      ++ gone_of (rules_in plan) (begun x ∷ []))
  pub counted : (acc : List Accepted) → Kept plan before ring acc
      → length (released_of (rules_in plan) (copies_of (rules_in plan) acc))
      + length (gone_of (rules_in plan) (begun x ∷ []))
      ≡ length (gone_of (rules_in plan) acc) + s.released
  pub copies : (acc : List Accepted) → Kept plan before ring acc
      → different (copies_in (rules_in plan) (begun x)) + s.copies
      ≡ length (copies_in (rules_in plan) (begun x))
  pub late : s.late ≡ late_in (rules_in plan) (begun x)
  pub inside : IsInside (rules_in plan) (Some s.session)
  pub horizon : s.session.horizon < 2 ^ 24 + plan.window
  pub few : (s.late ≤ 384) × (s.copies ≤ 384)
  pub rest : s.released ≤ plan.window

-- it did not: a prefix of the blocks that would have gone out on it did
abbrev pub RenewsPart : {S : Type 0} → blocks.Ghosts S → Plan → Option Begun → Packet
    → Buffer Cell → S → S → Type 0
RenewsPart b plan before x ring old new =
    (acc : List Accepted) → Kept plan before ring acc → GainsPart b.whole b.part old new
    (gone_of (rules_in plan) acc) (released_of (rules_in plan) (copies_of (rules_in plan) acc)
    ++ gone_of (rules_in plan) (begun x ∷ []))

-- a place of the segment so far may be one; a new segment always has one
abbrev pub HasSeat : Option Begun → Spot → Type 0
HasSeat before (Here place) = IsSeat before place
HasSeat before Anew = ⊤

-- a packet was taken there, or was not
abbrev pub TakesAt : {S : Type 0} → blocks.Ghosts S → Plan → Option Begun → Packet → Spot
    → Buffer Cell → Buffer Cell → S → S → Step → Type 0
TakesAt b plan before x (Here place) ring ring' old new s =
    Accepts b plan before x place ring ring' old new s
TakesAt b plan before x Anew ring ring' old new s = Renews b plan before x ring ring' old new s

abbrev pub TakesAtPart : {S : Type 0} → blocks.Ghosts S → Plan → Option Begun → Packet → Spot
    → Buffer Cell → S → S → Type 0
TakesAtPart b plan before x (Here place) ring old new =
    AcceptsPart b plan before x place ring old new
TakesAtPart b plan before x Anew ring old new = RenewsPart b plan before x ring old new

-- what a packet gave, with the number of its segment
abbrev pub taken_as : ℕ → Step → Taken
taken_as segment s =
    record { late = s.late; copies = s.copies; released = s.released; segment = segment }
