-- What a trial is asked to do, and what it means. This project's own.
use Rattle.std.specs.Prelude.{None}
use Rattle.amr_playout.specs.Plans.{IsPlan as IsReceiving, rules_in}
use Rattle.record_hearing.specs.declared.job.RecordJob.{RecordJob}
use Rattle.spec_sending.specs.Plans.{IsPlan as IsSending}
use Rattle.spec_trial.specs.Trials.{Trial, trial_meaning}
use Rattle.spec_run.specs.Meanings.{Meaning}
use Rattle.trial_engine.specs.declared.job.TrialJob.{TrialJob}

-- the trial that a job asks: packets of any payload type are recorded
abbrev pub trial_of : TrialJob → Trial
trial_of job = record {
  count = job.count;
  seed = job.seed;
  sending = job.send;
  recording = record { profile = job.plan.profile; asked = None; rules = rules_in job.plan };
}

-- what records the packets that are delivered; a limit of octets plays no part
abbrev pub recording_job : TrialJob → RecordJob
recording_job job = record { plan = job.plan; pt = None; limit = 1 }

-- what it means
abbrev pub trying_meaning : TrialJob → Meaning
trying_meaning job = trial_meaning (trial_of job)

-- the jobs that are served: those of valid plans
pub record IsServed (job : TrialJob) : Type 0 where
  pub receiving : IsReceiving job.plan
  pub sending : IsSending job.send
