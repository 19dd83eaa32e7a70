-- What a record changes that is no packet of the session, and what a packet changes.
use Rattle.std.proofs.Common.{◌≡◌, ℕ, false, List, [], ◌∷◌, ◌++◌, length, ap, ◌∙◌, sym, subst, arith, Some}
use Rattle.std.specs.Prelude.{OnErr, IfOk, Result, Ok, Err}
use Rattle.amr_io.specs.declared.source.Failed.{Failed}
use Rattle.record_hearing.proofs.Bounds.{bounded_same}
use Rattle.record_hearing.proofs.Passing.{told_packet}
use Rattle.record_hearing.proofs.Records.{packets_more, packets_same}
use Rattle.record_hearing.specs.Hearing.{Gaining, Hears, HearsPart, IsTold, Meets, Offers, OffersPart, among, gone_for, taken_in}
use Rattle.record_hearing.specs.Jobs.{recording_of}
use Rattle.record_hearing.specs.declared.heard.Heard.{Heard}
use Rattle.record_hearing.specs.declared.job.RecordJob.{RecordJob}
use Rattle.amr_frame.specs.Frames.{Frame}
use Rattle.amr_playout.specs.Plans.{rules_in}
use Rattle.amr_playout.specs.Receiver.{StandsFor, View}
use Rattle.spec_segments.specs.Segments.{accepted}
use Rattle.spec_session.specs.Packets.{Packet, packet_of, packets_of}

-- how many packets of a list are accepted
abbrev taken_of : RecordJob → List Packet → ℕ
taken_of job h = length (accepted (rules_in job.plan) h)

-- no packet
pub passed : (job : RecordJob) (v : View) (octets : List ℕ) (gains : Gaining) (heard : Heard)
    → ((less more : List (List Frame)) → more ≡ less → gains less more)
    → v.spent ≡ false → taken_in heard ≡ 0 → IsTold (recording_of job) octets heard
    → length (packets_of job.plan.profile job.pt (octets ∷ [])) ≡ 0
    → Hears job v v octets gains heard
passed job v octets gains heard nothing unspent none told e =
    let same : (records : List (List ℕ)) → among job (records ++ octets ∷ []) ≡ among job records =
    λ records. packets_same (recording_of job) records octets e in record {
      told = told;
      stands = λ records s. subst (StandsFor v) (sym (same records)) s;
      out = λ records s. nothing _ _ (ap (gone_for job) (same records));
      accepts = λ records s. let as_before = ap (taken_of job) (same records) in omega (arith, as_before, none);
      on = record { unspent = unspent; bounded = λ n b. bounded_same n v b };
    }

module _ (job : RecordJob) (v : View) (octets : List ℕ) (x : Packet) (gains : Gaining)
    (is : packet_of job.plan.profile job.pt octets ≡ Some x) where
  behind : (records : List (List ℕ)) → among job records ++ x ∷ [] ≡ among job (records ++ octets ∷ [])
  behind records = sym (packets_more (recording_of job) records octets x is)

  -- a packet
  pub packet_heard : (v' : View) (r : Result Heard Failed)
      → Meets (recording_of job) octets false false false false 1
      → IfOk r (Offers job v v' x gains) → IfOk r (Hears job v v' octets gains)
  packet_heard v' (Ok heard) m o = record {
    told = told_packet (recording_of job) octets heard o.of_session m;
    stands = λ records s. subst (StandsFor v') (behind records) (o.stands (among job records) s);
    out = λ records s.
        subst (λ h. gains (gone_for job (among job records)) (gone_for job h)) (behind records)
        (o.out (among job records) s);
    accepts = λ records s. ap (taken_of job) (sym (behind records)) ∙ o.accepts (among job records) s;
    on = o.on;
  }
  packet_heard v' (Err f) m o = tt

  pub packet_part : (r : Result Heard Failed)
      → OnErr r (OffersPart job v x gains) → OnErr r (HearsPart job v octets gains)
  packet_part (Ok heard) o = tt
  packet_part (Err f) o = record {
    out = λ records s.
        subst (λ h. gains (gone_for job (among job records)) (gone_for job h)) (behind records)
        (o.out (among job records) s);
  }
