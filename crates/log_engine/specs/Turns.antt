-- Where a run stands, and what came of a turn of it. It is ours.
use Rattle.std.specs.Prelude.{◌≡◌, ℕ, ◌+◌, ◌≤◌, ◌<◌, ◌^◌, List, [], ◌∷◌, ◌++◌, length, Option, OnOk, Result, None, Some}
use Rattle.std.specs.Io.KnownBytes.{Consumes, Keeps, append_known}
use Rattle.amr_io.specs.Fault.{HasCause}
use Rattle.amr_io.specs.declared.sink.Sink as sink
use Rattle.amr_io.specs.declared.source.Source as source
use Rattle.log_engine.specs.Puts.{Puts, PutsPart}
use Rattle.log_engine.specs.Run.{Why}
use Rattle.log_engine.specs.Tray.{Grows}
use Rattle.log_engine.specs.declared.gather_sink.GatherSink.{GatherSink}
use Rattle.log_engine.specs.declared.handler.RecordHandler as handler
use Rattle.rtp_packet.specs.Reading.{IsFresh, IsOpen, limit_of, rest, taken_of}
use Rattle.rtp_packet.specs.Record.{IsWhole}
use Rattle.rtp_packet.specs.declared.log_reader.LogReader.{LogReader}
use Rattle.run_report.specs.declared.end.RunEnd.{RunEnd}
use Rattle.run_report.specs.declared.end.RunEnd.TheVariants as end
use Rattle.spec_packet.specs.Log.{IsPartial, framed}
use Rattle.spec_run.specs.Flows.{Calm, FaultsOf, Flow, read_from, written_to}
use Rattle.spec_run.specs.LogRuns.{MOST_HELD}

-- where a run stands: who handles the records, the reader, the input, and the sink that gathers
pub record State (H A B : Type 0) : Type 0 where
  pub handler : H
  pub reader : LogReader
  pub input : A
  pub sink : GatherSink B

-- a run stands so
abbrev pub state : {H A B : Type 0} → H → LogReader → A → GatherSink B → State H A B
state h r i s = record { handler = h; reader = r; input = i; sink = s }

-- all that was put out, that which waits included
abbrev pub logical : {B : Type 0} → (B → Option (List ℕ)) → GatherSink B → Option (List ℕ)
logical got s = append_known (got s.output.now) s.gather.now.waiting

-- what was written behind a sink that gathers
abbrev pub sent : {B : Type 0} → sink.Ghosts B → GatherSink B → GatherSink B → Flow
sent k old new = written_to k old.output.now new.output.now

-- it is a sink over the same output, whose octets stay, and what stands beside these is as it was
pub record SameSink {B : Type 0} (k : sink.Ghosts B) (old new : GatherSink B) : Type 0 where
  pub reference : new.output.ghost_name ≡ old.output.ghost_name
  pub same : k.same old.output.now new.output.now
  pub beside : k.beside new.output.now ≡ k.beside old.output.now
  pub grows : Grows (k.got old.output.now) (k.got new.output.now)

-- what waits was written, or as much of it as went: all that was put out, that which waits
-- included, is as before, and it failed only where the output's faults rose
pub record WaitStep {B X E : Type 0} (k : sink.Ghosts B) (old new : GatherSink B)
    (result : Result X E) : Type 0 where
  pub kept : Keeps (logical k.got old) (logical k.got new)
  pub cause : HasCause (k.faults old.output.now) (k.faults new.output.now) result
  pub same : SameSink k old new

-- the handler's job stays, and the sink is over the same output
pub record Steady {H B : Type 0} (h : handler.Ghosts H) (k : sink.Ghosts B) (by by' : H)
    (old new : GatherSink B) : Type 0 where
  pub job : h.job by' ≡ h.job by
  pub same : SameSink k old new

-- the same, it failed only where the output's faults rose, and else nothing waits
pub record HandlerStep {H B X E : Type 0} (h : handler.Ghosts H) (k : sink.Ghosts B) (by by' : H)
    (old new : GatherSink B) (result : Result X E) : Type 0 where
  pub steady : Steady h k by by' old new
  pub cause : HasCause (k.faults old.output.now) (k.faults new.output.now) result
  pub empty : OnOk result (new.gather.now.waiting ≡ [])

-- a run may begin: the handler hasn't begun, nothing was read, and nothing waits
pub record AtStart {H A B : Type 0} (h : handler.Ghosts H) (first : State H A B) : Type 0 where
  pub handler : h.fresh first.handler
  pub fresh : IsFresh first.reader
  pub limit : limit_of first.reader ≤ 2 ^ 40
  pub empty : first.sink.gather.now.waiting ≡ []

-- which count of faults rose: none where a record was handled
abbrev pub TurnFaults : Option RunEnd → Flow → Flow → Type 0
TurnFaults None input output = Calm input × Calm output
TurnFaults (Some how) input output = FaultsOf how input output

-- what was read: these octets, none where a record was held, and `extra` past the limit
pub record Went (input : Flow) (old new : LogReader) (more extra : List ℕ) : Type 0 where
  pub took : Consumes input.told input.told' (more ++ extra)
  pub taken : taken_of new ≡ taken_of old + length more
  pub within : taken_of new ≤ limit_of new
  pub limit : limit_of new ≡ limit_of old
  pub held : IsWhole (rest old) → more ≡ []

-- a record with this packet came
pub record Brought (input : Flow) (old new : LogReader) (packet more : List ℕ) : Type 0 where
  pub went : Went input old new more []
  pub joins : rest old ++ more ≡ framed packet ++ rest new
  pub short : length packet < 2 ^ 16
  pub near : 2 + length packet + length (rest new) ≤ MOST_HELD
  pub unended : IsOpen new

-- a record came, with this packet, and these octets were read
pub record Came {H A B : Type 0} (s : source.Ghosts A) (old new : State H A B) : Type 0 where
  pub packet : List ℕ
  pub more : List ℕ
  pub brought : Brought (read_from s old.input new.input) old.reader new.reader packet more

-- a record came and was handled
pub record Handled {H A B : Type 0} (h : handler.Ghosts H) (s : source.Ghosts A)
    (k : sink.Ghosts B) (old new : State H A B) : Type 0 where
  pub came : Came s old new
  pub each : (hs : List (List ℕ)) → h.stands old.handler hs
      → h.stands new.handler (hs ++ came.packet ∷ [])
      × Puts (logical k.got old.sink) (logical k.got new.sink)
      ((h.job old.handler).early hs) ((h.job old.handler).early (hs ++ came.packet ∷ []))

-- a record came, and a write failed while it was handled
pub record HandledPart {H A B : Type 0} (h : handler.Ghosts H) (s : source.Ghosts A)
    (k : sink.Ghosts B) (old new : State H A B) : Type 0 where
  pub came : Came s old new
  pub each : (hs : List (List ℕ)) → h.stands old.handler hs
      → PutsPart (logical k.got old.sink) (logical k.got new.sink)
      ((h.job old.handler).early hs) ((h.job old.handler).early (hs ++ came.packet ∷ []))

-- no record came, and nothing was handled
pub record Missed {H A B : Type 0} (s : source.Ghosts A) (old new : State H A B) (how : RunEnd)
    : Type 0 where
  pub more : List ℕ
  pub extra : List ℕ
  pub went : Went (read_from s old.input new.input) old.reader new.reader more extra
  pub joins : rest old.reader ++ more ≡ rest new.reader
  pub partial : IsPartial (rest new.reader)
  pub near : length (rest new.reader) + length extra ≤ MOST_HELD
  pub why : Why (s.left old.input) more (taken_of new.reader) (limit_of new.reader)
      (rest new.reader) extra how
  pub idle : new.handler ≡ old.handler
  pub still : new.sink ≡ old.sink

-- what came of a turn: a record was handled, or the run ends so
abbrev pub Turned : {H A B : Type 0} → handler.Ghosts H → source.Ghosts A → sink.Ghosts B
    → State H A B → State H A B → Option RunEnd → Type 0
Turned h s k old new None = Handled h s k old new
Turned h s k old new (Some end.WriteFault) = HandledPart h s k old new
Turned h s k old new (Some end.Done) = Missed s old new end.Done
Turned h s k old new (Some (end.LogCut have)) = Missed s old new (end.LogCut have)
Turned h s k old new (Some end.LimitReached) = Missed s old new end.LimitReached
Turned h s k old new (Some end.ReadFault) = Missed s old new end.ReadFault
Turned h s k old new (Some _) = ⊥
