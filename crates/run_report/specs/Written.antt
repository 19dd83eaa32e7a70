-- What a writer of notes did to the sink that it writes to. It is ours.
use Rattle.std.specs.Prelude.{◌≡◌, ℕ, List, [], Ok, OnErr, OnOk, Result}
use Rattle.std.specs.Io.KnownBytes.{Appends}
use Rattle.amr_io.specs.Steps.{SinkStep}
use Rattle.amr_io.specs.Told.{AppendsFront}
use Rattle.amr_io.specs.declared.sink.Sink as sink

-- the sink got this text; where the call failed, a front of it, and the sink's faults rose; where
-- there is no text, the sink isn't called
pub record Writes {S E : Type 0} (k : sink.Ghosts S) (text : List ℕ) (old new : S)
    (result : Result (Unit {0}) E) : Type 0 where
  pub whole : OnOk result (Appends (k.got old) (k.got new) text)
  pub part : OnErr result (AppendsFront (k.got old) (k.got new) text)
  pub none : text ≡ [] → (result ≡ Ok tt) × (new ≡ old)
  pub step : SinkStep k old new result
