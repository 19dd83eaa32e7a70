-- What a recorder holds while records come: ours.
use Rattle.std.specs.Prelude.{⊤, ◌≡◌, ℕ, ◌+◌, ◌*◌, ◌^◌, ◌≤◌, ◌<◌, false, List, [], Option, Some, None}
use Rattle.record_hearing.specs.Jobs.{IsServed, recording_of}
use Rattle.record_hearing.specs.Tallies.{IsSmall, Tallied}
use Rattle.record_hearing.specs.declared.job.RecordJob.{RecordJob}
use Rattle.amr_playout.specs.Receiver.{StandsFor, View}
use Rattle.amr_playout.specs.declared.session.Begun.{Begun}
use Rattle.run_report.specs.Lines.{no_counts}
use Rattle.run_report.specs.declared.counts.Counts.{Counts}
use Rattle.spec_session.specs.Packets.{packets_of}

-- it took these records
pub record Stands (job : RecordJob) (v : View) (c : Counts) (records : List (List ℕ)) : Type 0 where
  pub heard : StandsFor v (packets_of job.plan.profile job.pt records)
  pub tallied : Tallied (recording_of job) c records

-- n records take a segment no further than this: a record takes the horizon no further than the
-- reach
abbrev pub IsWithin : ℕ → Option Begun → Type 0
IsWithin n None = ⊤
IsWithin n (Some s) = s.horizon ≤ 2 ^ 24 + 4096 + n * 45000

-- n records count no more than this: each has at most 384 late blocks and 384 copies, puts out no
-- more blocks than the reach, and begins at most one segment
pub record IsBounded (n : ℕ) (v : View) : Type 0 where
  pub late : v.counts.late ≤ n * 384
  pub copies : v.counts.copies ≤ n * 384
  pub blocks : v.counts.blocks ≤ n * 45000
  pub segments : v.segment ≤ n
  pub within : IsWithin n v.session

-- the job is served, and the receiver is one of its plan
pub record IsServedBy (job : RecordJob) (v : View) : Type 0 where
  pub served : IsServed job
  pub plan : v.plan ≡ job.plan

-- a receiver of a job that is served takes a record more: no call failed, and it heard fewer than
-- 2^40 records
pub record TakesRecord (job : RecordJob) (v : View) : Type 0 where
  pub served : IsServedBy job v
  pub unspent : v.spent ≡ false
  pub records : ℕ
  pub few : records < 2 ^ 40
  pub bounded : IsBounded records v

-- it took no record
pub record IsNew (v : View) (c : Counts) : Type 0 where
  pub heard : StandsFor v []
  pub session : v.session ≡ None
  pub counts : v.counts ≡ record { late = 0; copies = 0; blocks = 0 }
  pub tally : c ≡ no_counts

-- it takes records
pub record IsGoing (v : View) (c : Counts) : Type 0 where
  pub unspent : v.spent ≡ false
  pub small : IsSmall c
  pub few : c.packets ≤ 2 ^ 40
  pub bounded : IsBounded c.packets v
