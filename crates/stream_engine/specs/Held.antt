-- Frames that are held and sent where they stand: nothing is read, and nothing written but to the
-- octets that wait. It is ours.
use Rattle.std.specs.Prelude.{◌≡◌, ◌+◌, ◌≤◌, ℕ, List, [], ◌∷◌, ◌++◌, Option}
use Rattle.amr_frame.specs.Frames.{Frame}
use Rattle.amr_io.specs.declared.sink.Sink as sink
use Rattle.amr_sender.specs.Sender.{StandsFor, View}
use Rattle.amr_store.specs.Reading.{IsSameReader, given}
use Rattle.amr_store.specs.declared.reader.StoreReader.{StoreReader}
use Rattle.log_engine.specs.Turns.{SameSink}
use Rattle.log_engine.specs.declared.gather_sink.GatherSink.{GatherSink}
use Rattle.spec_stream.specs.Streaming.{begun_log}
use Rattle.stream_engine.specs.Progress.{Going, Start}

-- a block was sent: the sender stands for it too, and what it makes of the log waits behind the
-- octets that waited
pub record SendsHeld (v v' : View) (block : List Frame) (waiting waiting' : List ℕ) : Type 0 where
  pub more : List ℕ
  pub put : waiting' ≡ waiting ++ more
  pub stands : (b : List (List Frame)) → StandsFor v b → StandsFor v' (b ++ block ∷ [])
  pub log : (b : List (List Frame)) → StandsFor v b
      → begun_log v.plan (b ++ block ∷ []) ≡ begun_log v.plan b ++ more
  pub blocks : v'.blocks ≡ v.blocks + 1

-- so many blocks were sent, of those that were held: a run goes on
pub record SentHeld {B : Type 0} (o : sink.Ghosts B) (v v' : View) (r r' : StoreReader)
    (s s' : GatherSink B) (count : ℕ) : Type 0 where
  pub goes : (start : Start) (left : Option (List ℕ)) → Going o start left v r s
      → Going o start left v' r' s'
  pub blocks : v'.blocks ≡ v.blocks + count
  pub rises : given r + count ≤ given r'
  pub same_reader : IsSameReader r r'
  pub still : s'.output.now ≡ s.output.now
  pub same : SameSink o s s'
