-- What a call that sends blocks as a log of packets puts out (RFC 4571, 2). It is ours.
use Rattle.std.specs.Prelude.{◌≡◌, ℕ, ◌+◌, List, [], ◌∷◌, ◌++◌, length, Option, Result}
use Rattle.amr_frame.specs.Frames.{Frame}
use Rattle.amr_io.specs.Fault.{HasCause}
use Rattle.amr_io.specs.declared.sink.Sink as sink
use Rattle.amr_sender.specs.Sender.{StandsFor, View}
use Rattle.log_engine.specs.Puts.{Puts, PutsPart}
use Rattle.log_engine.specs.Turns.{SameSink}
use Rattle.log_engine.specs.declared.gather_sink.GatherSink.{GatherSink}
use Rattle.spec_sending.specs.Sending.{sent}
use Rattle.spec_stream.specs.Streaming.{begun_log, sent_log}

-- a block was sent: the sender stands for it too, and what it makes of the log was put out
pub record SendsBlock (v v' : View) (block : List Frame) (got got' : Option (List ℕ)) : Type 0
  where
    pub stands : (b : List (List Frame)) → StandsFor v b → StandsFor v' (b ++ block ∷ [])
    pub out : (b : List (List Frame)) → StandsFor v b
        → Puts got got' (begun_log v.plan b) (begun_log v.plan (b ++ block ∷ []))
    pub blocks : v'.blocks ≡ v.blocks + 1

-- a part of what it makes of the log was put out
pub record SendsBlockPart (v : View) (block : List Frame) (got got' : Option (List ℕ)) : Type 0
  where
    pub out : (b : List (List Frame)) → StandsFor v b
        → PutsPart got got' (begun_log v.plan b) (begun_log v.plan (b ++ block ∷ []))

-- the rest of the log was put out, and all packets are counted
pub record SendsRest (v v' : View) (got got' : Option (List ℕ)) : Type 0 where
  pub out : (b : List (List Frame)) → StandsFor v b
      → Puts got got' (begun_log v.plan b) (sent_log v.plan b)
  pub count : (b : List (List Frame)) → StandsFor v b → v'.packets ≡ length (sent v.plan b)

-- a part of the rest was put out
pub record SendsRestPart (v : View) (got got' : Option (List ℕ)) : Type 0 where
  pub out : (b : List (List Frame)) → StandsFor v b
      → PutsPart got got' (begun_log v.plan b) (sent_log v.plan b)

-- it failed only where the output's faults rose, and the sink is one over the same output
pub record CloseStep {B X E : Type 0} (k : sink.Ghosts B) (old new : GatherSink B)
    (result : Result X E) : Type 0 where
  pub cause : HasCause (k.faults old.output.now) (k.faults new.output.now) result
  pub same : SameSink k old new
