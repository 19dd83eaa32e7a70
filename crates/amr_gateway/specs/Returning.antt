-- Recording what was sent for blocks: ours.
use Rattle.std.specs.Prelude.{◌≡◌, ◌≤◌, Bool, List, length}
use Rattle.std.specs.Io.KnownBytes.{Appends}
use Rattle.amr_frame.specs.Frames.{Frame}
use Rattle.amr_gateway.specs.WorkedOff.{WorkedOff}
use Rattle.record_hearing.specs.Jobs.{recording_of}
use Rattle.record_hearing.specs.declared.job.RecordJob.{RecordJob}
use Rattle.return_laws.specs.Carrying.{CarryAll}
use Rattle.return_laws.specs.Recordings.{Takes, file_of, left_log}
use Rattle.return_laws.specs.Sessions.{AreSent}
use Rattle.run_report.specs.declared.end.RunEnd.TheVariants.{Done}
use Rattle.spec_run.specs.Meanings.{Work}
use Rattle.spec_sending.specs.Left.{left}
use Rattle.spec_sending.specs.Sending.{sendings}
use Rattle.spec_sending.specs.declared.plan.SendPlan.{SendPlan}
use Rattle.spec_stream.specs.Streaming.{sent_log}

-- all was done, and just the storage file of these blocks was put out
pub record PutsFile (s : SendPlan) (b : List (List Frame)) (w : Work) : Type 0 where
  pub done : w.report.end ≡ Done
  pub out : Appends w.output.told w.output.told' (file_of s b)

-- a log that is sent for blocks, within the limit, is recorded as their file, and so is what is
-- left of it where packets carry consecutive blocks and each block is in a packet that is left
pub record ReturnsWhatIsSent (job : RecordJob) (w : Work) : Type 0 where
  pub sent : (s : SendPlan) (b : List (List Frame)) → AreSent s b → Takes (recording_of job) s
      → length (sent_log s b) ≤ job.limit → WorkedOff w (sent_log s b) → PutsFile s b w
  pub repaired : (s : SendPlan) (b : List (List Frame)) (kept : List Bool) → AreSent s b
      → s.length ≡ 1 → Takes (recording_of job) s → CarryAll (length b) (left kept (sendings s b))
      → length (left_log s b kept) ≤ job.limit → WorkedOff w (left_log s b kept) → PutsFile s b w
