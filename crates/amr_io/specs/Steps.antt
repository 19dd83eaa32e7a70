-- What a call that is lent a sink promises whatever it answers. It is ours.
use Rattle.std.specs.Prelude.{◌≡◌, Result}
use Rattle.amr_io.specs.Fault.{HasCause}
use Rattle.amr_io.specs.declared.sink.Sink as sink

-- it failed only where the sink's faults rose, what stands beside the octets is as before, and the
-- sink still writes to the same object
pub record SinkStep {S A E : Type 0} (k : sink.Ghosts S) (old new : S) (result : Result A E)
    : Type 0 where
  pub cause : HasCause (k.faults old) (k.faults new) result
  pub beside : k.beside new ≡ k.beside old
  pub same : k.same old new
