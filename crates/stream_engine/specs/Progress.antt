-- Where a run over the blocks of a file stands, and how it comes to its end. It is ours.
use Rattle.std.specs.Prelude.{◌≡◌, ℕ, ◌≤◌, ◌^◌, List, [], ◌++◌, Option, None, Some}
use Rattle.std.specs.Io.KnownBytes.{Appends, Consumes}
use Rattle.amr_frame.specs.Frames.{Frame}
use Rattle.amr_io.specs.declared.sink.Sink as sink
use Rattle.amr_io.specs.declared.source.Source as source
use Rattle.amr_sender.specs.Sender.{StandsFor, View}
use Rattle.amr_store.specs.Reading.{HasGiven, IsFresh, held, limit_of}
use Rattle.amr_store.specs.declared.reader.StoreReader.{StoreReader}
use Rattle.log_engine.specs.Tray.{Grows}
use Rattle.log_engine.specs.Turns.{logical}
use Rattle.log_engine.specs.declared.gather_sink.GatherSink.{GatherSink}
use Rattle.run_report.specs.declared.end.RunEnd.{RunEnd}
use Rattle.run_report.specs.declared.end.RunEnd.TheVariants as end
use Rattle.spec_run.specs.Meanings.{IsPrefix}
use Rattle.spec_sending.specs.Plans.{IsPlan}
use Rattle.spec_sending.specs.declared.plan.SendPlan.{SendPlan}
use Rattle.spec_stream.specs.Streaming.{begun_log, file_blocks, output_of}
use Rattle.stream_engine.specs.Reading.{IsFor, Stopped}

-- where a run stands: who sends the blocks, the reader, the input, and the sink that gathers
pub record State (A B : Type 0) : Type 0 where
  pub sender : View
  pub reader : StoreReader
  pub input : A
  pub sink : GatherSink B

-- a run stands so
abbrev pub state : {A B : Type 0} → View → StoreReader → A → GatherSink B → State A B
state v r i s = record { sender = v; reader = r; input = i; sink = s }

-- what a run began with: its plan and limit, and what was told of the input and of the output
pub record Start : Type 0 where
  pub plan : SendPlan
  pub limit : ℕ
  pub told : Option (List ℕ)
  pub got : Option (List ℕ)

abbrev pub start_of : {A B : Type 0} → source.Ghosts A → sink.Ghosts B → State A B → Start
start_of i o first = record {
  plan = first.sender.plan;
  limit = limit_of first.reader;
  told = i.left first.input;
  got = o.got first.sink.output.now;
}

-- a run may begin: no block was sent and nothing read, nothing waits, and the reader reads files of
-- the plan's format
pub record MayStart {B : Type 0} (v : View) (r : StoreReader) (s : GatherSink B) : Type 0 where
  pub plan : IsPlan v.plan
  pub stands : StandsFor v []
  pub none : v.packets ≡ 0
  pub fresh : IsFresh r
  pub is_for : IsFor v.plan (limit_of r) r
  pub limit : limit_of r ≤ 2 ^ 40
  pub empty : s.gather.now.waiting ≡ []

-- what was put out for these blocks, that which waits included, and what of it is written
pub record Out {B : Type 0} (o : sink.Ghosts B) (start : Start) (b : List (List Frame))
    (s : GatherSink B) : Type 0 where
  pub put : Appends start.got (logical o.got s) (begun_log start.plan b)
  pub grown : Grows start.got (o.got s.output.now)

-- a run goes on: the blocks of the octets that were given are sent, and these octets are left of the
-- input, where they are told
pub record Going {B : Type 0} (o : sink.Ghosts B) (start : Start) (left : Option (List ℕ))
    (v : View) (r : StoreReader) (s : GatherSink B) : Type 0 where
  pub valid : IsPlan start.plan
  pub plan : v.plan ≡ start.plan
  pub is_for : IsFor start.plan start.limit r
  pub front : List ℕ
  pub given : HasGiven front r
  pub took : Consumes start.told left (front ++ held r)
  pub stands : StandsFor v (file_blocks start.plan front)
  pub out : Out o start (file_blocks start.plan front) s

-- the same, of where a run stands
abbrev pub Underway : {A B : Type 0} → source.Ghosts A → sink.Ghosts B → Start → State A B
    → Type 0
Underway i o start now = Going o start (i.left now.input) now.sender now.reader now.sink

-- a run stopped, where no block came behind these
pub record Halted {A B : Type 0} (i : source.Ghosts A) (o : sink.Ghosts B) (start : Start)
    (now : State A B) (how : RunEnd) : Type 0 where
  pub valid : IsPlan start.plan
  pub plan : now.sender.plan ≡ start.plan
  pub blocks : List (List Frame)
  pub stopped : Stopped start.plan start.limit start.told (i.left now.input) blocks how
  pub stands : StandsFor now.sender blocks
  pub out : Out o start blocks now.sink
  pub empty : how ≡ end.ReadFault → now.sink.gather.now.waiting ≡ []

-- a write failed: a part of what the input means is out
pub record Broke (start : Start) (told' got' : Option (List ℕ)) : Type 0 where
  pub read : List ℕ
  pub out : List ℕ
  pub took : Consumes start.told told' read
  pub put : Appends start.got got' out
  pub part : (all : List ℕ) → start.told ≡ Some all
      → IsPrefix out (output_of start.plan start.limit all)

-- where a run stands that ends so
abbrev pub After : {A B : Type 0} → source.Ghosts A → sink.Ghosts B → Start → State A B → RunEnd
    → Type 0
After i o start now end.WriteFault =
    Broke start (i.left now.input) (o.got now.sink.output.now)
After i o start now how = Halted i o start now how

-- what came of a turn: a block was sent, or the run ends so
abbrev pub Turned : {A B : Type 0} → source.Ghosts A → sink.Ghosts B → Start → State A B
    → Option RunEnd → Type 0
Turned i o start now None = Underway i o start now
Turned i o start now (Some how) = After i o start now how
