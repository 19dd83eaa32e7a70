-- What recording is asked to do, and which jobs are served.
use Rattle.std.specs.Prelude.{◌≤◌, ◌^◌}
use Rattle.amr_playout.specs.Plans.{IsPlan, rules_in}
use Rattle.record_hearing.specs.declared.job.RecordJob.{RecordJob}
use Rattle.spec_record.specs.Recording.{Recording}

-- the recording that a job asks: its format, its payload type or any, and the rules of its plan
abbrev pub recording_of : RecordJob → Recording
recording_of job = record { profile = job.plan.profile; asked = job.pt; rules = rules_in job.plan }

-- the jobs that are served: those of a valid plan, of at most 2^40 octets
pub record IsServed (job : RecordJob) : Type 0 where
  pub plan : IsPlan job.plan
  pub some : 1 ≤ job.limit
  pub most : job.limit ≤ 2 ^ 40
