-- What a job asks, what it means, and which jobs are served.
use Rattle.std.specs.Prelude.{◌≡◌, ◌≤◌, ◌^◌}
use Rattle.amr_playout.specs.Plans.{IsPlan}
use Rattle.convert_engine.specs.declared.job.ConvertJob.{ConvertJob}
use Rattle.record_hearing.specs.Jobs.{recording_of}
use Rattle.record_hearing.specs.declared.job.RecordJob.{RecordJob}
use Rattle.spec_run.specs.Meanings.{Meaning}
use Rattle.spec_sending.specs.Plans.{IsPlan as IsSendPlan}
use Rattle.spec_sending.specs.declared.plan.SendPlan.{SendPlan}
use Rattle.spec_stream.specs.Converting.{convert_meaning}

-- how the log of a job is heard
abbrev pub hearing_of : ConvertJob → RecordJob
hearing_of job = record { plan = job.plan; pt = job.pt; limit = job.limit }

-- what converting a log means
abbrev pub converting_meaning : ConvertJob → Meaning
converting_meaning job = convert_meaning (recording_of (hearing_of job)) job.to job.limit

-- blocks that are heard so can be sent by a plan: it is valid, and has their codec and channels
pub record CanSend (heard : RecordJob) (to : SendPlan) : Type 0 where
  pub valid : IsSendPlan to
  pub codec : to.profile.codec ≡ heard.plan.profile.codec
  pub channels : to.profile.channels ≡ heard.plan.profile.channels

-- the jobs that are served: those of two valid plans of one codec and as many channels, and of at
-- most 2^40 octets
pub record IsServed (job : ConvertJob) : Type 0 where
  pub plan : IsPlan job.plan
  pub sends : CanSend (hearing_of job) job.to
  pub some : 1 ≤ job.limit
  pub most : job.limit ≤ 2 ^ 40
