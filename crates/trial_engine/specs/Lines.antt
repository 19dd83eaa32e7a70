-- Where a lossy line stands. This project's own.
use Rattle.std.specs.Prelude.{◌≡◌, ℕ, ◌≤◌, ◌^◌, false, List, [], ◌∷◌, ◌++◌, length}
use Rattle.record_hearing.specs.declared.job.RecordJob.{RecordJob}
use Rattle.spec_trial.specs.Delivery.{Line, delivery_seed, fates, on_line, past}
use Rattle.spec_trial.specs.Draws.{after}
use Rattle.trial_engine.specs.Tapes.{HasRecorded, IsRecordOf}
use Rattle.trial_engine.specs.declared.line.LossyLine.{LossyLine}
use Rattle.trial_engine.specs.declared.tape.Recorded.{Recorded}

-- it shows this: what was delivered is recorded, and the rest stands in it
pub record Shows (line : LossyLine) (l : Line (List ℕ)) : Type 0 where
  pub recorded : HasRecorded line.tape l.delivered
  pub waits : line.waiting ≡ l.waiting
  pub lost_is : line.lost ≡ l.lost
  pub doubled_is : line.doubled ≡ l.doubled
  pub held_is : line.held ≡ l.held

-- what becomes of packets that were put, but for the end
abbrev pub carried : ℕ → List (List ℕ) → Line (List ℕ)
carried seed packets = on_line packets (fates seed (length packets))

-- these packets were put on a line of a trial with this number, which records by this job
pub record IsOn (job : RecordJob) (seed : ℕ) (line : LossyLine) (packets : List (List ℕ))
    : Type 0 where
  pub job_is : line.tape.listener.job ≡ job
  pub drawn : line.draws.state ≡ after (delivery_seed seed) (length packets)
  pub sent_is : line.sent ≡ length packets
  pub not_full : line.full ≡ false
  pub shows : Shows line (carried seed packets)

-- a packet more was put
abbrev pub CarriesOn : LossyLine → List ℕ → LossyLine → Type 0
CarriesOn line packet line' = (job : RecordJob) (seed : ℕ) (packets : List (List ℕ))
    → IsOn job seed line packets → IsOn job seed line' (packets ++ packet ∷ [])

-- it takes no more packets
abbrev pub IsFull : LossyLine → Type 0
IsFull line = 2 ^ 32 ≤ line.sent

-- it was closed: what it delivered in all was recorded
abbrev pub Closes : LossyLine → Recorded → Type 0
Closes line r = (job : RecordJob) (seed : ℕ) (packets : List (List ℕ)) → IsOn job seed line packets
    → IsRecordOf job (past (carried seed packets) []).delivered r
