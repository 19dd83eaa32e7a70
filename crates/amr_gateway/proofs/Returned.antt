-- A job that is served records what was sent for blocks as the file of these blocks.
use Rattle.std.proofs.Common.{ℕ, ◌≤◌, List, refl, ◌∙◌, subst, arith, Option, Some, None}
use Rattle.std.specs.Io.KnownBytes.{Appends}
use Rattle.amr_frame.specs.Frames.{Frame}
use Rattle.amr_frame.specs.Profiles.{group_bound}
use Rattle.record_hearing.proofs.Plans.{format_valid}
use Rattle.amr_gateway.specs.Jobs.{recording_meaning}
use Rattle.record_hearing.specs.Jobs.{IsServed, recording_of}
use Rattle.amr_gateway.specs.Returning.{PutsFile, ReturnsWhatIsSent}
use Rattle.amr_gateway.specs.WorkedOff.{WorkedOff}
use Rattle.record_hearing.specs.declared.job.RecordJob.{RecordJob}
use Rattle.amr_playout.proofs.Plans.{facts}
use Rattle.amr_playout.specs.Plans.{most_together}
use Rattle.return_laws.proofs.Recorded.{left_recorded, sent_recorded}
use Rattle.return_laws.specs.Recordings.{HoldsGroup, IsRecording, RecordsAs, file_of}
use Rattle.spec_run.specs.Meanings.{Work, Works}
use Rattle.spec_sending.specs.declared.plan.SendPlan.{SendPlan}

-- a window that holds what stands together
holds : (blocks window : ℕ) (o : Option ℕ) → most_together blocks o ≤ window → (blocks ≤ window) × HoldsGroup window o
holds blocks window None h = (h, tt)
holds blocks window (Some group) h = (omega arith, omega arith)

recording : (job : RecordJob) → IsServed job → IsRecording (recording_of job)
recording job served =
    let f = facts job.plan served.plan in
    let p = job.plan.profile in
    let h = holds p.max_blocks job.plan.window (group_bound p.interleaving) f.together in
    record {
      format = format_valid job.plan served.plan;
      rules = refl;
      payload = h.0;
      group = h.1;
      most = (f.narrow, f.reach);
    }

-- what was recorded as a file was put out so
put : (job : RecordJob) (w : Work) (s : SendPlan) (b : List (List Frame)) (log : List ℕ)
    → Works (recording_meaning job) w → WorkedOff w log
    → RecordsAs (recording_of job) job.limit log (file_of s b) → PutsFile s b w
put job w s b log works off r =
    let served = works.served off.finished log off.input in
    record {
      done = served.end ∙ r.done;
      out = subst (Appends w.output.told w.output.told') r.out served.out;
    }

pub returned : (job : RecordJob) (w : Work) → IsServed job → Works (recording_meaning job) w → ReturnsWhatIsSent job w
returned job w served works =
    let r = recording job served in
    record {
      sent = λ s b are takes few off. put job w s b _ works off
          (sent_recorded (recording_of job) job.limit s b r are takes few);
      repaired = λ s b kept are one takes all few off. put job w s b _ works off
          (left_recorded (recording_of job) job.limit s b kept r are one takes all few);
    }
