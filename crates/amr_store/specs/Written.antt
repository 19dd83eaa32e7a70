-- What a writer of storage files did to the sink that it writes to.
use Rattle.std.specs.Prelude.{◌≡◌, ℕ, ◌≤◌, Bool, true, false, ◌&&◌, nat_le, List, Option, Result, Ok, Err, OnErr, OnOk}
use Rattle.std.specs.Borrow.{MutBor}
use Rattle.std.specs.Io.KnownBytes.{Appends}
use Rattle.amr_io.specs.Steps.{SinkStep}
use Rattle.amr_io.specs.Told.{AppendsFront}
use Rattle.amr_io.specs.declared.sink.Sink as sink
use Rattle.amr_frame.specs.Frames.{Frame}
use Rattle.amr_frame.specs.declared.codec.Codec.{Codec}
use Rattle.amr_store.specs.declared.writer.StoreWriter.{StoreWriter}
use Rattle.amr_store.specs.declared.writer.Stage.{Stage}
use Rattle.amr_store.specs.declared.writer.Stage.TheVariants.{Fresh, Open, Spent}
use Rattle.spec_store.specs.StorageFile.{block_text}

abbrev is_open : Stage → Bool
is_open Fresh = false
is_open Open = true
is_open Spent = false

-- a call leaves a writer open where it is served, and spent where it fails
abbrev pub stage_after : {A E : Type 0} → Result A E → Stage
stage_after (Ok _) = Open
stage_after (Err _) = Spent

-- a writer takes blocks once it has begun, until a write fails; its channels are from 1 to 6
abbrev pub takes_blocks : Stage → ℕ → Bool
takes_blocks stage channels = is_open stage && nat_le 1 channels && nat_le channels 6

-- the numbers of channels that a file may have
abbrev pub AreChannels : ℕ → Type 0
AreChannels channels = (1 ≤ channels) × (channels ≤ 6)

-- a writer of this format was made at this stage over the sink that was lent, which is as it was
pub record StandsOver {O : Type 0} (codec : Codec) (channels : ℕ) (first : Stage) (lent : MutBor O)
    (before : O) (w : StoreWriter O) : Type 0 where
  pub format : (w.codec ≡ codec) × (w.channels ≡ channels)
  pub stage : w.stage ≡ first
  pub same_reference : w.sink.ghost_name ≡ lent.ghost_name
  pub now : w.sink.now ≡ before

-- a call wrote this text to a sink; where it failed, a front of it
pub record WroteText {O A E : Type 0} (k : sink.Ghosts O) (text : List ℕ) (old new : O)
    (result : Result A E) : Type 0 where
  pub whole : OnOk result (Appends (k.got old) (k.got new) text)
  pub part : OnErr result (AppendsFront (k.got old) (k.got new) text)
  pub step : SinkStep k old new result

-- two writers write to the same sink, it to the same object, and what stands beside its octets is
-- as before
pub record SameSink {O : Type 0} (aside : O → Option (List (List ℕ × List ℕ)))
    (alike : O → O → Type 0) (v w : StoreWriter O) : Type 0 where
  pub reference : w.sink.ghost_name ≡ v.sink.ghost_name
  pub object : alike v.sink.now w.sink.now
  pub beside : aside w.sink.now ≡ aside v.sink.now

-- the sink got octets of a block more, as `shows` says, and the writer then stands so
pub record Wrote {O : Type 0} (got : O → Option (List ℕ))
    (aside : O → Option (List (List ℕ × List ℕ))) (alike : O → O → Type 0)
    (shows : Option (List ℕ) → Option (List ℕ) → List ℕ → Type 0) (after : Stage)
    (v : StoreWriter O) (block : List Frame) (w : StoreWriter O) : Type 0 where
  pub same : SameSink aside alike v w
  pub octets : shows (got v.sink.now) (got w.sink.now) (block_text block)
  pub stage : w.stage ≡ after

-- the sink got the octets of a block more, and the writer takes the next
abbrev pub WroteBlock : {O : Type 0} → (O → Option (List ℕ))
    → (O → Option (List (List ℕ × List ℕ))) → (O → O → Type 0)
    → StoreWriter O → List Frame → StoreWriter O → Type 0
WroteBlock got aside alike v block w = Wrote got aside alike Appends Open v block w

-- the sink got a front of the octets of a block more, and the writer is spent
abbrev pub WrotePart : {O : Type 0} → (O → Option (List ℕ))
    → (O → Option (List (List ℕ × List ℕ))) → (O → O → Type 0)
    → StoreWriter O → List Frame → StoreWriter O → Type 0
WrotePart got aside alike v block w = Wrote got aside alike AppendsFront Spent v block w
