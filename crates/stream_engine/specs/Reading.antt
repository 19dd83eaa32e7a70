-- What was read of a storage file (RFC 4867, 5), and why no block comes. The ends and the limit are
-- ours.
use Rattle.std.specs.Prelude.{◌≡◌, ℕ, ◌≤◌, List, [], ◌++◌, length, take, Option, None, Some, Result, Ok, Err}
use Rattle.std.specs.Io.KnownBytes.{Consumes}
use Rattle.amr_frame.specs.Frames.{Frame}
use Rattle.amr_io.specs.declared.source.Failed.{Failed}
use Rattle.amr_io.specs.declared.source.Source as source
use Rattle.amr_store.specs.Reading.{HasGiven, HoldsNothing, channels_of, codec_of, held, limit_of}
use Rattle.amr_store.specs.declared.reader.StoreReader.{StoreReader}
use Rattle.amr_store.specs.declared.step.Step.{Step}
use Rattle.amr_store.specs.declared.step.Step.TheVariants as step
use Rattle.log_engine.specs.declared.gather_sink.GatherSink.{GatherSink}
use Rattle.run_report.specs.declared.end.RunEnd.{RunEnd}
use Rattle.run_report.specs.declared.end.RunEnd.TheVariants as end
use Rattle.spec_sending.specs.declared.plan.SendPlan.{SendPlan}
use Rattle.spec_stream.specs.Streaming.{end_of, file_blocks}

-- it reads files of the plan's codec and channels, of which at most so many octets are taken
pub record IsFor (s : SendPlan) (most : ℕ) (r : StoreReader) : Type 0 where
  pub codec : codec_of r ≡ s.profile.codec
  pub channels : channels_of r ≡ s.profile.channels
  pub limit : limit_of r ≡ most

-- it gives blocks of a file of the plan's codec and channels
pub record IsReading (s : SendPlan) (r : StoreReader) : Type 0 where
  pub front : List ℕ
  pub given : HasGiven front r
  pub codec : codec_of r ≡ s.profile.codec
  pub channels : channels_of r ≡ s.profile.channels

-- how a run ends on an answer of the reader; it goes on where the header was read or a block came
abbrev pub stop_by : Result Step Failed → Option RunEnd
stop_by (Ok step.Ready) = None
stop_by (Ok step.End) = Some end.Done
stop_by (Ok (step.Refused w)) = Some (end.File w)
stop_by (Ok step.OverLimit) = Some end.LimitReached
stop_by (Err _) = Some end.ReadFault

-- the next block may be asked for: it is held, or nothing waits that a failed read would keep back
abbrev pub MayRead : {B : Type 0} → StoreReader → GatherSink B → Type 0
MayRead r sink = (file : List ℕ) → HasGiven file r → HoldsNothing file r
    → sink.gather.now.waiting ≡ []

-- of this input these blocks are sent, and the run ends so
pub record Means (s : SendPlan) (limit : ℕ) (all : List ℕ) (b : List (List Frame)) (how : RunEnd)
    : Type 0 where
  pub blocks : file_blocks s (take limit all) ≡ b
  pub end : how ≡ end_of s limit all

-- the input was these octets, of which these blocks are sent
pub record Ended (s : SendPlan) (limit : ℕ) (all read : List ℕ) (b : List (List Frame)) : Type 0
  where
    pub whole : all ≡ read
    pub means : Means s limit all b end.Done

-- a read failed behind these octets, of which these blocks are sent
pub record Broken (s : SendPlan) (limit : ℕ) (read : List ℕ) (b : List (List Frame)) : Type 0
  where
    pub within : length read ≤ limit
    pub blocks : file_blocks s read ≡ b

-- why no block came behind these, by the end
abbrev pub Why : SendPlan → ℕ → Option (List ℕ) → List ℕ → List (List Frame) → RunEnd → Type 0
Why s limit told read b end.Done = (all : List ℕ) → told ≡ Some all → Ended s limit all read b
Why s limit told read b (end.File w) = (all : List ℕ) → told ≡ Some all
    → Means s limit all b (end.File w)
Why s limit told read b end.LimitReached = (all : List ℕ) → told ≡ Some all
    → Means s limit all b end.LimitReached
Why s limit told read b end.ReadFault = Broken s limit read b
Why s limit told read b _ = ⊥

-- no block came behind these: some octets were read, and show why
pub record Stopped (s : SendPlan) (limit : ℕ) (told told' : Option (List ℕ))
    (b : List (List Frame)) (how : RunEnd) : Type 0 where
  pub read : List ℕ
  pub took : Consumes told told' read
  pub why : Why s limit told read b how

-- the header was read, and no block yet
pub record Opened (s : SendPlan) (limit : ℕ) (told told' : Option (List ℕ)) (r : StoreReader)
    : Type 0 where
  pub header : List ℕ
  pub given : HasGiven header r
  pub took : Consumes told told' (header ++ held r)
  pub none : file_blocks s header ≡ []
  pub is_for : IsFor s limit r

-- what came of reading the header: it was read, or the run ends so
abbrev pub Begun : {A : Type 0} → source.Ghosts A → SendPlan → ℕ → A → A → StoreReader
    → Option RunEnd → Type 0
Begun i s limit old new r None = Opened s limit (i.left old) (i.left new) r
Begun i s limit old new r (Some how) = Stopped s limit (i.left old) (i.left new) [] how
