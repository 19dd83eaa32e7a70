-- Recording the accepted packets alone: ours.
use Rattle.std.specs.Prelude.{ℕ, List}
use Rattle.amr_gateway.specs.WorkedOff.{PutsFileOf, WorkedOff}
use Rattle.record_hearing.specs.Jobs.{recording_of}
use Rattle.record_hearing.specs.declared.job.RecordJob.{RecordJob}
use Rattle.return_laws.specs.Strangers.{HasOneSegment, accepted_log}
use Rattle.spec_run.specs.Meanings.{Work}

-- what was put out is also the file of the log of its accepted packets alone, where no packet but
-- the first begins a segment
pub record IgnoresStrangers (job : RecordJob) (w : Work) : Type 0 where
  pub same : (log : List ℕ) → WorkedOff w log → HasOneSegment (recording_of job) job.limit log
      → PutsFileOf job w (accepted_log (recording_of job) job.limit log)
