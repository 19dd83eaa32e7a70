-- Recording the same records in another order: ours.
use Rattle.std.specs.Prelude.{ℕ, List}
use Rattle.amr_gateway.specs.WorkedOff.{PutsFileOf, WorkedOff}
use Rattle.record_hearing.specs.Jobs.{recording_of}
use Rattle.record_hearing.specs.declared.job.RecordJob.{RecordJob}
use Rattle.return_laws.specs.Ordering.{HoldTheSame, IsInTime}
use Rattle.spec_run.specs.Meanings.{Work}

-- what was put out is the file of every log that holds the same records, in any order and with any
-- repeats, where in both logs each well-formed packet is accepted, no block is late, and the places
-- span less than 2^31 ticks
pub record IgnoresOrder (job : RecordJob) (w : Work) : Type 0 where
  pub same : (log other : List ℕ) → WorkedOff w log → HoldTheSame job.limit log other
      → IsInTime (recording_of job) job.limit log → IsInTime (recording_of job) job.limit other
      → PutsFileOf job w other
