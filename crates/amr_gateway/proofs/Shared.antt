-- What was put out is also the file of other logs.
use Rattle.std.proofs.Common.{◌≡◌, ℕ, List, sym, refl, subst}
use Rattle.std.specs.Io.KnownBytes.{Appends}
use Rattle.amr_gateway.specs.Jobs.{recording_meaning}
use Rattle.amr_gateway.specs.Ordering.{IgnoresOrder}
use Rattle.amr_gateway.specs.Strangers.{IgnoresStrangers}
use Rattle.amr_gateway.specs.WorkedOff.{PutsFileOf, WorkedOff}
use Rattle.record_hearing.specs.Jobs.{recording_of}
use Rattle.record_hearing.specs.declared.job.RecordJob.{RecordJob}
use Rattle.return_laws.proofs.Accepted.{accepted_recorded}
use Rattle.return_laws.proofs.Ordered.{ordered}
use Rattle.spec_run.specs.Meanings.{Work, Works}

module _ (job : RecordJob) (w : Work) (works : Works (recording_meaning job) w) where
  -- another log with the same file
  shared : (log other : List ℕ) → WorkedOff w log → (recording_meaning job).out log ≡ (recording_meaning job).out other
      → PutsFileOf job w other
  shared log other off e = record {
    out = subst (Appends w.output.told w.output.told') e (works.served off.finished log off.input).out;
  }

  pub ignores_order : IgnoresOrder job w
  ignores_order = record {
    same = λ log other off same one two. shared log other off
        (ordered (recording_of job) job.limit job.plan.window job.plan.reach log other refl same one two);
  }

  pub ignores_strangers : IgnoresStrangers job w
  ignores_strangers = record {
    same = λ log off one. shared log _ off (sym (accepted_recorded (recording_of job) job.limit log one).out);
  }
