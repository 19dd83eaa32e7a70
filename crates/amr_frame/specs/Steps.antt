-- What a call that is lent a sink of blocks promises whatever it answers. It is ours.
use Rattle.std.specs.Prelude.{◌≡◌, ℕ, Result, is_ok, OnOk, IsTrue}
use Rattle.amr_frame.specs.declared.block_sink.BlockSink as blocks
use Rattle.amr_frame.specs.declared.codec.Codec.{Codec}
use Rattle.amr_io.specs.Fault.{HasCause}

-- the sink takes blocks of this codec, c, and so many channels, n
pub record TakesBlocks {S : Type 0} (b : blocks.Ghosts S) (c : Codec) (n : ℕ) (sink : S)
    : Type 0 where
  pub ready : IsTrue (b.ready sink)
  pub codec : b.codec sink ≡ c
  pub channels : b.channels sink ≡ n

-- it failed only where the sink's faults rose, and the sink then takes no more blocks; else it
-- takes blocks as before; it still writes to the same object
pub record BlockStep {S A E : Type 0} (b : blocks.Ghosts S) (old new : S) (result : Result A E)
    : Type 0 where
  pub cause : HasCause (b.faults old) (b.faults new) result
  pub same : b.same old new
  pub ready : b.ready new ≡ is_ok result
  pub kept : OnOk result ((b.codec new ≡ b.codec old) × (b.channels new ≡ b.channels old))
