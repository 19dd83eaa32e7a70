-- A log that a run of recording worked off, and the file that it put out: ours.
use Rattle.std.specs.Prelude.{◌≡◌, ℕ, List, Some}
use Rattle.std.specs.Io.KnownBytes.{Appends}
use Rattle.amr_gateway.specs.Jobs.{recording_meaning}
use Rattle.record_hearing.specs.declared.job.RecordJob.{RecordJob}
use Rattle.run_report.specs.Ends.{IsFinished}
use Rattle.spec_run.specs.Meanings.{Work}

-- the input was this log, and neither a call failed nor was memory wanting
pub record WorkedOff (w : Work) (log : List ℕ) : Type 0 where
  pub input : w.input.told ≡ Some log
  pub finished : IsFinished w.report.end

-- just the file of this log was put out
pub record PutsFileOf (job : RecordJob) (w : Work) (log : List ℕ) : Type 0 where
  pub out : Appends w.output.told w.output.told' ((recording_meaning job).out log)
