-- What a record that was heard changed: ours.
use Rattle.std.specs.Prelude.{⊤, ◌≡◌, ℕ, ◌+◌, ◌++◌, ◌≤◌, Bool, true, false, List, [], ◌∷◌, length, Result}
use Rattle.amr_frame.specs.Frames.{Frame}
use Rattle.amr_frame.specs.Steps.{BlockStep}
use Rattle.amr_frame.specs.declared.block_sink.BlockSink as sink
use Rattle.record_hearing.specs.declared.heard.Heard.{Heard}
use Rattle.record_hearing.specs.declared.heard.Heard.TheVariants.{Null, NoRtp, OtherType, NoPayload, NoPlace, Accepted}
use Rattle.record_hearing.specs.Going.{IsBounded}
use Rattle.record_hearing.specs.Jobs.{recording_of}
use Rattle.record_hearing.specs.declared.job.RecordJob.{RecordJob}
use Rattle.amr_playout.specs.Plans.{rules_in}
use Rattle.amr_playout.specs.Receiver.{StandsFor, View}
use Rattle.spec_record.specs.RecordCounts.{is_no_payload, is_no_rtp, is_null, is_other_type}
use Rattle.spec_record.specs.Recording.{Recording}
use Rattle.spec_segments.specs.Counts.{block_count}
use Rattle.spec_segments.specs.Release.{gone_out, released}
use Rattle.spec_segments.specs.Segments.{accepted}
use Rattle.spec_session.specs.Packets.{Packet, packets_of}

-- what it is to go from one list of blocks to a longer one
abbrev pub Gaining : Type 1
Gaining = List (List Frame) → List (List Frame) → Type 0

-- how many packets are accepted by what became of a record
abbrev pub taken_in : Heard → ℕ
taken_in Null = 0
taken_in NoRtp = 0
taken_in OtherType = 0
taken_in NoPayload = 0
taken_in NoPlace = 0
taken_in Accepted = 1

-- it is a packet of the session, accepted or not
abbrev pub IsOfSession : Heard → Type 0
IsOfSession Null = ⊥
IsOfSession NoRtp = ⊥
IsOfSession OtherType = ⊥
IsOfSession NoPayload = ⊥
IsOfSession NoPlace = ⊤
IsOfSession Accepted = ⊤

-- which of the tests of a recording a record meets, and how many packets it is
pub record Meets (r : Recording) (octets : List ℕ)
    (null rtp other_type payload : Bool) (packets : ℕ) : Type 0 where
  pub null_is : is_null octets ≡ null
  pub rtp_is : is_no_rtp octets ≡ rtp
  pub other_type_is : is_other_type r.asked octets ≡ other_type
  pub payload_is : is_no_payload r.profile r.asked octets ≡ payload
  pub packets_are : length (packets_of r.profile r.asked (octets ∷ [])) ≡ packets

-- a record is told by the test that it meets
abbrev pub IsTold : Recording → List ℕ → Heard → Type 0
IsTold r octets Null = Meets r octets true false false false 0
IsTold r octets NoRtp = Meets r octets false true false false 0
IsTold r octets OtherType = Meets r octets false false true false 0
IsTold r octets NoPayload = Meets r octets false false false true 0
IsTold r octets NoPlace = Meets r octets false false false false 1
IsTold r octets Accepted = Meets r octets false false false false 1

-- a receiver has a record more behind it
pub record GoesOn (v v' : View) : Type 0 where
  pub unspent : v'.spent ≡ false
  pub bounded : (n : ℕ) → IsBounded n v → IsBounded (n + 1) v'

-- what has gone out for packets
abbrev pub gone_for : RecordJob → List Packet → List (List Frame)
gone_for job h = gone_out (rules_in job.plan) h

-- a packet behind others was accepted or refused, which changed the receiver and what went out
pub record Offers (job : RecordJob) (v v' : View) (x : Packet) (gains : Gaining)
    (heard : Heard) : Type 0 where
  pub of_session : IsOfSession heard
  pub stands : (h : List Packet) → StandsFor v h → StandsFor v' (h ++ x ∷ [])
  pub out : (h : List Packet) → StandsFor v h
      → gains (gone_for job h) (gone_for job (h ++ x ∷ []))
  pub accepts : (h : List Packet) → StandsFor v h
      → length (accepted (rules_in job.plan) (h ++ x ∷ []))
      ≡ length (accepted (rules_in job.plan) h) + taken_in heard
  pub on : GoesOn v v'

-- a front of what would have gone out on it did
pub record OffersPart (job : RecordJob) (v : View) (x : Packet) (gains : Gaining)
    : Type 0 where
  pub out : (h : List Packet) → StandsFor v h
      → gains (gone_for job h) (gone_for job (h ++ x ∷ []))

-- the packets among records
abbrev pub among : RecordJob → List (List ℕ) → List Packet
among job records = packets_of job.plan.profile job.pt records

-- a record behind others was heard as this, which changed the receiver and what went out
pub record Hears (job : RecordJob) (v v' : View) (octets : List ℕ) (gains : Gaining)
    (heard : Heard) : Type 0 where
  pub told : IsTold (recording_of job) octets heard
  pub stands : (records : List (List ℕ)) → StandsFor v (among job records)
      → StandsFor v' (among job (records ++ octets ∷ []))
  pub out : (records : List (List ℕ)) → StandsFor v (among job records)
      → gains (gone_for job (among job records))
      (gone_for job (among job (records ++ octets ∷ [])))
  pub accepts : (records : List (List ℕ)) → StandsFor v (among job records)
      → length (accepted (rules_in job.plan) (among job (records ++ octets ∷ [])))
      ≡ length (accepted (rules_in job.plan) (among job records)) + taken_in heard
  pub on : GoesOn v v'

-- a front of what would have gone out on it did
pub record HearsPart (job : RecordJob) (v : View) (octets : List ℕ) (gains : Gaining)
    : Type 0 where
  pub out : (records : List (List ℕ)) → StandsFor v (among job records)
      → gains (gone_for job (among job records))
      (gone_for job (among job (records ++ octets ∷ [])))

-- a session ended: the blocks that were held went out, and all are counted
pub record EndsSession (job : RecordJob) (v v' : View) (gains : Gaining) : Type 0 where
  pub out : (h : List Packet) → StandsFor v h
      → gains (gone_for job h) (released (rules_in job.plan) h)
  pub late : v'.counts.late ≡ v.counts.late
  pub copies : v'.counts.copies ≡ v.counts.copies
  pub blocks : (h : List Packet) → StandsFor v h
      → v'.counts.blocks ≡ block_count (rules_in job.plan) h
  pub few : v'.counts.blocks ≤ v.counts.blocks + job.plan.window

-- a front of the blocks that were held went out
pub record EndsPart (job : RecordJob) (v : View) (gains : Gaining) : Type 0 where
  pub out : (h : List Packet) → StandsFor v h
      → gains (gone_for job h) (released (rules_in job.plan) h)

-- what stays through a call with a receiver that is lent a sink of blocks: the receiver's plan, and
-- of the sink all that a step keeps
pub record HearStep {S A E : Type 0} (b : sink.Ghosts S) (v v' : View) (old new : S)
    (result : Result A E) : Type 0 where
  pub plan : v'.plan ≡ v.plan
  pub step : BlockStep b old new result
