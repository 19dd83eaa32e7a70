-- Where a run of a trial stands. This project's own.
use Rattle.std.specs.Prelude.{◌≡◌, ℕ, ◌+◌, List, [], ◌∷◌, ◌++◌, map}
use Rattle.amr_frame.specs.Frames.{Frame}
use Rattle.amr_sender.specs.Sender.{StandsFor, View}
use Rattle.record_hearing.specs.declared.job.RecordJob.{RecordJob}
use Rattle.rtp_packet.specs.Written.{written}
use Rattle.spec_sending.specs.Plans.{IsPlan}
use Rattle.spec_sending.specs.Sending.{begun, sent}
use Rattle.trial_engine.specs.Lines.{IsOn}
use Rattle.trial_engine.specs.declared.line.LossyLine.{LossyLine}

-- these blocks were given to the sender, and the packets that are begun for them put on the line
pub record HasSent (job : RecordJob) (seed : ℕ) (v : View) (line : LossyLine)
    (blocks : List (List Frame)) : Type 0 where
  pub plan : IsPlan v.plan
  pub stands : StandsFor v blocks
  pub on : IsOn job seed line (map written (begun v.plan blocks))

-- some were
abbrev pub IsSending : View → LossyLine → Type 0
IsSending v line = (job : RecordJob) × (seed : ℕ) × (blocks : List (List Frame))
    × HasSent job seed v line blocks

-- a block more was
pub record SendsBlock (v v' : View) (line line' : LossyLine) (block : List Frame) : Type 0 where
  pub plan : v'.plan ≡ v.plan
  pub count : v'.blocks ≡ v.blocks + 1
  pub goes : (job : RecordJob) (seed : ℕ) (blocks : List (List Frame))
      → HasSent job seed v line blocks → HasSent job seed v' line' (blocks ++ block ∷ [])

-- all packets that are sent for them were put on the line
abbrev pub EndsSending : View → LossyLine → LossyLine → Type 0
EndsSending v line line' = (job : RecordJob) (seed : ℕ) (blocks : List (List Frame))
    → HasSent job seed v line blocks → IsOn job seed line' (map written (sent v.plan blocks))
