-- What a call put out, as a step from what was out before to what is out behind it. It is ours.
use Rattle.std.specs.Prelude.{◌≡◌, ℕ, List, ◌++◌, Option, Result}
use Rattle.std.specs.Io.KnownBytes.{Appends}
use Rattle.amr_io.specs.Steps.{SinkStep}
use Rattle.amr_io.specs.declared.sink.Sink as sink
use Rattle.spec_run.specs.LogRuns.{RecordsJob}
use Rattle.spec_run.specs.Meanings.{IsPrefix}

-- what was put out grew from `before` to `after`
pub record Puts (old new : Option (List ℕ)) (before after : List ℕ) : Type 0 where
  pub more : List ℕ
  pub put : Appends old new more
  pub grown : after ≡ before ++ more

-- what was put out grew from `before` by a part of what `after` has more
pub record PutsPart (old new : Option (List ℕ)) (before after : List ℕ) : Type 0 where
  pub part : List ℕ
  pub put : Appends old new part
  pub within : IsPrefix (before ++ part) after

-- what stays through a call of a handler that is lent a sink: its job is the same, and of the sink
-- all that a step keeps
pub record CallStep {S A E : Type 0} (k : sink.Ghosts S) (job job' : RecordsJob) (old new : S)
    (result : Result A E) : Type 0 where
  pub kept : job' ≡ job
  pub step : SinkStep k old new result
