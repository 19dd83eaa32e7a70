-- What is recorded of packets that are delivered. This project's own.
use Rattle.std.specs.Prelude.{◌≡◌, ℕ, ◌+◌, ◌%◌, ◌^◌, List, [], ◌++◌, length, None, sum}
use Rattle.amr_frame.specs.Frames.{Frame}
use Rattle.amr_playout.specs.Receiver.{StandsFor, View}
use Rattle.record_hearing.specs.Jobs.{recording_of}
use Rattle.record_hearing.specs.Listening.{HasHeard, gone_among}
use Rattle.record_hearing.specs.declared.job.RecordJob.{RecordJob}
use Rattle.spec_record.specs.RecordCounts.{counts_of}
use Rattle.spec_record.specs.Recording.{file_of}
use Rattle.trial_engine.specs.Sums.{SumsFile}
use Rattle.trial_engine.specs.declared.file_sum.FileSum.{FileSum}
use Rattle.trial_engine.specs.declared.tape.Recorded.{Recorded}
use Rattle.trial_engine.specs.declared.tape.Tape.{Tape}

-- a receiver that has heard nothing
pub record IsFresh (v : View) : Type 0 where
  pub stands : StandsFor v []
  pub session : v.session ≡ None
  pub counts : v.counts ≡ record { late = 0; copies = 0; blocks = 0 }

-- the sum is that of the file of these blocks, in the format of a job
abbrev pub SumsOf : RecordJob → FileSum → List (List Frame) → Type 0
SumsOf job file blocks = SumsFile file job.plan.profile.codec job.plan.profile.channels blocks

-- it heard these records, and the blocks that have gone out for them were added up
pub record HasRecorded (t : Tape) (records : List (List ℕ)) : Type 0 where
  pub heard : HasHeard t.listener records
  pub sums : SumsOf t.listener.job t.file (gone_among t.listener.job records)

-- these packets were delivered behind others
pub record Delivers (t t' : Tape) (packets : List (List ℕ)) : Type 0 where
  pub job : t'.listener.job ≡ t.listener.job
  pub count : t'.listener.tally.packets ≡ t.listener.tally.packets + length packets
  pub recorded : (records : List (List ℕ)) → HasRecorded t records
      → HasRecorded t' (records ++ packets)

-- the counts are those of these records, and the sum is that of the file that is recorded of them
pub record IsRecordOf (job : RecordJob) (records : List (List ℕ)) (r : Recorded) : Type 0 where
  pub counts : r.counts ≡ counts_of (recording_of job) records
  pub count : r.file.count ≡ length (file_of (recording_of job) records)
  pub total : r.file.total ≡ sum (file_of (recording_of job) records) % 2 ^ 32

-- it was ended, behind at most 2^40 packets
abbrev pub Ends : Tape → Recorded → Type 0
Ends t r = (records : List (List ℕ)) → HasRecorded t records → IsRecordOf t.listener.job records r
