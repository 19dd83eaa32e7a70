-- What an offer of a packet does, by its answer, and the end of a session. This project's own.
use Rattle.std.specs.Prelude.{⊤, ◌≡◌, ℕ, ◌+◌, ◌≤◌, ◌++◌, List, [], ◌∷◌, length, true, false, None, Ok, Err, Result}
use Rattle.amr_frame.specs.declared.block_sink.BlockSink as blocks
use Rattle.amr_frame.specs.Frames.{Frame}
use Rattle.amr_frame.specs.Steps.{BlockStep}
use Rattle.amr_playout.specs.declared.answers.Offered.{Offered}
use Rattle.amr_playout.specs.declared.answers.Offered.TheVariants.{BlockFault, Refused}
use Rattle.amr_playout.specs.declared.answers.Refusal.{Refusal}
use Rattle.amr_playout.specs.declared.answers.Taken.{Taken}
use Rattle.amr_playout.specs.Counted.{counted_with}
use Rattle.amr_playout.specs.Gains.{Gains, GainsPart}
use Rattle.amr_playout.specs.Plans.{rules_in}
use Rattle.amr_playout.specs.Receiver.{Moves, StandsFor, View}
use Rattle.amr_playout.specs.Refusals.{IsRefusedAs}
use Rattle.amr_playout.specs.Verdicts.{stray_with}
use Rattle.spec_segments.specs.Counts.{block_count}
use Rattle.spec_segments.specs.Release.{gone_out, released}
use Rattle.spec_segments.specs.Segments.{SegmentVerdict, Begins, Within, segments, verdict}
use Rattle.spec_session.specs.Packets.{Packet}
use Rattle.spec_session.specs.Session.{Accept, OtherSource, OffGrid, FarAhead}

-- what the rules of segments say of a packet behind these
abbrev pub verdict_on : View → List Packet → Packet → SegmentVerdict
verdict_on v h x = verdict (rules_in v.plan) (segments (rules_in v.plan) h) x

-- they take it: the last segment accepts it, or it begins a new one
abbrev pub IsTaken : SegmentVerdict → Type 0
IsTaken (Begins a) = ⊤
IsTaken (Within (Accept a)) = ⊤
IsTaken (Within (OtherSource kept got)) = ⊥
IsTaken (Within (OffGrid delta)) = ⊥
IsTaken (Within (FarAhead horizon last)) = ⊥

-- what has gone out for packets
abbrev pub gone_by : View → List Packet → List (List Frame)
gone_by v h = gone_out (rules_in v.plan) h

-- the packet was taken: the receiver stands for it too, and all blocks of the segments before its
-- own have gone out, and those of its own up to the horizon less the window
pub record Takes {S : Type 0} (b : blocks.Ghosts S) (v v' : View) (x : Packet) (old new : S)
    (t : Taken) : Type 0 where
  pub verdict : (h : List Packet) → StandsFor v h → IsTaken (verdict_on v h x)
  pub stands : (h : List Packet) → StandsFor v h → StandsFor v' (h ++ x ∷ [])
  pub out : (h : List Packet) → StandsFor v h
      → Gains b.whole old new (gone_by v h) (gone_by v (h ++ x ∷ []))
  pub counts : v'.counts ≡ counted_with v.counts t
  pub segment : v'.segment ≡ t.segment
  pub stray : v'.stray ≡ None
  pub few : (t.late ≤ 384) × (t.copies ≤ 384)
  pub moves : Moves v v' t.released
  pub unspent : v'.spent ≡ false
  pub step : BlockStep {A = Taken} {E = Offered} b old new (Ok t)

-- the packet was refused, just as the rules of segments say: nothing has changed but that a packet
-- of the source is the stray now, and the receiver stands for it too; it changes nothing that goes
-- out
pub record Refuses {S : Type 0} (v v' : View) (x : Packet) (old new : S) (why : Refusal)
    : Type 0 where
  pub verdict : (h : List Packet) → StandsFor v h → IsRefusedAs (verdict_on v h x) why
  pub stands : (h : List Packet) → StandsFor v h → StandsFor v' (h ++ x ∷ [])
  pub quiet : (h : List Packet) → StandsFor v h → gone_by v (h ++ x ∷ []) ≡ gone_by v h
  pub receiver : v' ≡ record v { stray = stray_with v.stray x.sequence why }
  pub sink : new ≡ old

-- the sink failed on a packet that is accepted: a prefix of the blocks that would have gone out on
-- it did, the session and the counts are as before, and the receiver is spent
pub record Fails {S : Type 0} (b : blocks.Ghosts S) (v v' : View) (x : Packet) (old new : S)
    : Type 0 where
  pub verdict : (h : List Packet) → StandsFor v h → IsTaken (verdict_on v h x)
  pub part : (h : List Packet) → StandsFor v h
      → GainsPart b.whole b.part old new (gone_by v h) (gone_by v (h ++ x ∷ []))
  pub session : v'.session ≡ v.session
  pub counts : v'.counts ≡ v.counts
  pub spent : v'.spent ≡ true
  pub step : BlockStep {A = Taken} {E = Offered} b old new (Err BlockFault)

-- what an offer does, by its answer
abbrev pub Answers : {S : Type 0} → blocks.Ghosts S → View → View → Packet → S → S
    → Result Taken Offered → Type 0
Answers b v v' x old new (Ok t) = Takes b v v' x old new t
Answers b v v' x old new (Err (Refused why)) = Refuses v v' x old new why
Answers b v v' x old new (Err BlockFault) = Fails b v v' x old new

-- the session ended: the rest of its release went out, no more blocks than the window has, and all
-- its blocks are counted
pub record Finishes {S : Type 0} (b : blocks.Ghosts S) (v v' : View) (old new : S) (count : ℕ)
    : Type 0 where
  pub out : (h : List Packet) → StandsFor v h
      → Gains b.whole old new (gone_by v h) (released (rules_in v.plan) h)
  pub count_is : (h : List Packet) → StandsFor v h
      → length (released (rules_in v.plan) h) ≡ length (gone_by v h) + count
  pub counts : v'.counts ≡ record {
    late = v.counts.late;
    copies = v.counts.copies;
    blocks = v.counts.blocks + count;
  }
  pub all : (h : List Packet) → StandsFor v h
      → v'.counts.blocks ≡ block_count (rules_in v.plan) h
  pub few : count ≤ v.plan.window

-- the sink failed before the end: a prefix of the rest went out, and the counts are as before
pub record FinishesPart {S : Type 0} (b : blocks.Ghosts S) (v v' : View) (old new : S)
    : Type 0 where
  pub part : (h : List Packet) → StandsFor v h
      → GainsPart b.whole b.part old new (gone_by v h) (released (rules_in v.plan) h)
  pub counts : v'.counts ≡ v.counts
