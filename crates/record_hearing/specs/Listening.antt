-- What a listener has heard, and what a call of it changes: ours.
use Rattle.std.specs.Prelude.{◌≡◌, ◌+◌, ◌++◌, ◌≤◌, ℕ, List, [], ◌∷◌, length}
use Rattle.amr_frame.specs.Frames.{Frame}
use Rattle.record_hearing.specs.Going.{IsGoing, Stands}
use Rattle.record_hearing.specs.Hearing.{Gaining, among, gone_for}
use Rattle.record_hearing.specs.Jobs.{recording_of}
use Rattle.record_hearing.specs.Tallies.{counted_in_all}
use Rattle.record_hearing.specs.declared.job.RecordJob.{RecordJob}
use Rattle.record_hearing.specs.declared.listener.Listener.{Listener}
use Rattle.spec_record.specs.RecordCounts.{counts_of}
use Rattle.spec_segments.specs.Release.{released}
use Rattle.amr_playout.specs.Plans.{rules_in}

-- it heard these records
abbrev pub HasHeard : Listener → List (List ℕ) → Type 0
HasHeard l records = Stands l.job l.receiver l.tally records

-- the blocks that have gone out for records, and those that are released of them
abbrev pub gone_among : RecordJob → List (List ℕ) → List (List Frame)
gone_among job records = gone_for job (among job records)

abbrev pub released_among : RecordJob → List (List ℕ) → List (List Frame)
released_among job records = released (rules_in job.plan) (among job records)

-- it heard a record more, and the blocks that go out on it were put
pub record Listens (gains : Gaining) (l l' : Listener) (octets : List ℕ) : Type 0 where
  pub stands : (records : List (List ℕ)) → HasHeard l records → HasHeard l' (records ++ octets ∷ [])
  pub out : (records : List (List ℕ)) → HasHeard l records
      → gains (gone_among l.job records) (gone_among l.job (records ++ octets ∷ []))
  pub going : IsGoing l'.receiver l'.tally
  pub one : l'.tally.packets ≡ l.tally.packets + 1

-- a prefix of the blocks was put that would have gone out on it
pub record ListensPart (gains : Gaining) (l : Listener) (octets : List ℕ) : Type 0 where
  pub out : (records : List (List ℕ)) → HasHeard l records
      → gains (gone_among l.job records) (gone_among l.job (records ++ octets ∷ []))

-- the session ended: the blocks that were held were put, no more than the window has, and the
-- counts are those of the records
pub record Closes (gains : Gaining) (l l' : Listener) : Type 0 where
  pub out : (records : List (List ℕ)) → HasHeard l records
      → gains (gone_among l.job records) (released_among l.job records)
  pub counts : (records : List (List ℕ)) → HasHeard l records
      → counted_in_all l'.tally l'.receiver.counts ≡ counts_of (recording_of l.job) records
  pub few : (records : List (List ℕ)) → HasHeard l records
      → length (released_among l.job records) ≤ l.receiver.counts.blocks + l.job.plan.window

-- a prefix of the blocks that were held was put
pub record ClosesPart (gains : Gaining) (l : Listener) : Type 0 where
  pub out : (records : List (List ℕ)) → HasHeard l records
      → gains (gone_among l.job records) (released_among l.job records)
