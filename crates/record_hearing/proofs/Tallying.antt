-- The tally of records, as records come.
use Rattle.std.proofs.Common.{◌≡◌, ℕ, ◌+◌, ◌-◌, Bool, true, false, cond, List, [], ◌∷◌, ◌++◌, length, refl, ap, ◌∙◌, sym, arith, length-append}
use Rattle.std.specs.Prelude.{filter}
use Rattle.std.proofs.lemmas.List.Elements.{filter-append, filter_map-append}
use Rattle.record_hearing.specs.Hearing.{IsTold, Meets, taken_in}
use Rattle.record_hearing.specs.Tallies.{Tallied, counted_as, counted_in_all}
use Rattle.record_hearing.specs.declared.heard.Heard.{Heard}
use Rattle.record_hearing.specs.declared.heard.Heard.TheVariants.{Null, NoRtp, OtherType, NoPayload, NoPlace, Accepted}
use Rattle.run_report.specs.declared.counts.Counts.{Counts}
use Rattle.spec_record.specs.RecordCounts.{count, is_no_payload, is_no_rtp, is_null, is_other_type}
use Rattle.spec_record.specs.Recording.{Recording}
use Rattle.record_hearing.specs.Jobs.{recording_of}
use Rattle.record_hearing.specs.declared.job.RecordJob.{RecordJob}
use Rattle.amr_playout.specs.Plans.{rules_in}
use Rattle.amr_playout.specs.declared.answers.Kept.{Kept}
use Rattle.spec_record.specs.RecordCounts.{counts_of}
use Rattle.spec_segments.specs.Counts.{block_count, copy_count, late_count}
use Rattle.spec_segments.specs.Segments.{accepted}
use Rattle.spec_session.specs.Packets.{Packet, packet_of, packets_of}

count_one : (f : List ℕ → Bool) (x : List ℕ) (b : Bool) → f x ≡ b → length (filter f (x ∷ [])) ≡ cond b 1 0
count_one f x true e = rw e refl
count_one f x false e = rw e refl

-- a test counts a record more where the record meets it
count_more : (f : List ℕ → Bool) (records : List (List ℕ)) (x : List ℕ) (b : Bool) → f x ≡ b → count f (records ++ x ∷ []) ≡ count f records + cond b 1 0
count_more f records x b e =
    ap length (filter-append f records (x ∷ [])) ∙ length-append (filter f records) (filter f (x ∷ [])) ∙ ap (λ n. length (filter f records) + n) (count_one f x b e)

packets_count : (r : Recording) (records : List (List ℕ)) (x : List ℕ) (n : ℕ) → length (packets_of r.profile r.asked (x ∷ [])) ≡ n → length (packets_of r.profile r.asked (records ++ x ∷ [])) ≡ length (packets_of r.profile r.asked records) + n
packets_count r records x n e =
    ap length (filter_map-append (packet_of r.profile r.asked) records (x ∷ [])) ∙ length-append (packets_of r.profile r.asked records) (packets_of r.profile r.asked (x ∷ [])) ∙ ap (λ k. length (packets_of r.profile r.asked records) + k) e

-- a count that stays
still : (n : ℕ) → n ≡ n + 0
still n = omega arith

-- one more where a test is met
abbrev one_if : Bool → ℕ
one_if b = cond b 1 0

-- the counts once a record more was counted by the tests that it meets
abbrev counted_by : Counts → Bool → Bool → Bool → Bool → ℕ → Counts
counted_by t null rtp other_type payload missed = record t {
  packets = t.packets + 1;
  null = t.null + one_if null;
  rtp = t.rtp + one_if rtp;
  other_type = t.other_type + one_if other_type;
  payload = t.payload + one_if payload;
  place = t.place + missed;
}

-- how many packets there are, and how many of them are accepted
abbrev packets_in : Recording → List (List ℕ) → ℕ
packets_in r records = length (packets_of r.profile r.asked records)

abbrev accepted_in : Recording → List (List ℕ) → ℕ
accepted_in r records = length (accepted r.rules (packets_of r.profile r.asked records))

module _ (r : Recording) (t t' : Counts) (records : List (List ℕ)) (x : List ℕ) where
  more : (null rtp other_type payload : Bool) (packets missed taken : ℕ)
      → Meets r x null rtp other_type payload packets
      → t' ≡ counted_by t null rtp other_type payload missed
      → accepted_in r (records ++ x ∷ []) ≡ accepted_in r records + taken
      → missed + taken ≡ packets → Tallied r t records → Tallied r t' (records ++ x ∷ [])
  more null rtp other_type payload packets missed taken m e a all old =
      let p = ap (λ k. k.place) e in
      let n = packets_count r records x packets m.packets_are in
      let o = old.place in record {
        packets = ap (λ k. k.packets) e ∙ ap (λ n. n + 1) old.packets ∙ sym (length-append records (x ∷ []));
        null = ap (λ k. k.null) e ∙ ap (λ n. n + one_if null) old.null ∙ sym (count_more is_null records x null m.null_is);
        rtp = ap (λ k. k.rtp) e ∙ ap (λ n. n + one_if rtp) old.rtp ∙ sym (count_more is_no_rtp records x rtp m.rtp_is);
        other_type = ap (λ k. k.other_type) e ∙ ap (λ n. n + one_if other_type) old.other_type
            ∙ sym (count_more (is_other_type r.asked) records x other_type m.other_type_is);
        payload = ap (λ k. k.payload) e ∙ ap (λ n. n + one_if payload) old.payload
            ∙ sym (count_more (is_no_payload r.profile r.asked) records x payload m.payload_is);
        place = omega (arith, p, n, o, a, all);
        sent = ap (λ k. k.sent) e ∙ old.sent;
      }

  -- a record more, by what became of it
  pub tallied_more : (heard : Heard) → t' ≡ counted_as t heard → IsTold r x heard
      → accepted_in r (records ++ x ∷ []) ≡ accepted_in r records + taken_in heard
      → Tallied r t records → Tallied r t' (records ++ x ∷ [])
  tallied_more Null e m a old = more true false false false 0 0 0 m
      (e ∙ (λ i. record t { packets = t.packets + 1; null = t.null + 1; rtp = still t.rtp i; other_type = still t.other_type i; payload = still t.payload i; place = still t.place i })) a refl old
  tallied_more NoRtp e m a old = more false true false false 0 0 0 m
      (e ∙ (λ i. record t { packets = t.packets + 1; null = still t.null i; rtp = t.rtp + 1; other_type = still t.other_type i; payload = still t.payload i; place = still t.place i })) a refl old
  tallied_more OtherType e m a old = more false false true false 0 0 0 m
      (e ∙ (λ i. record t { packets = t.packets + 1; null = still t.null i; rtp = still t.rtp i; other_type = t.other_type + 1; payload = still t.payload i; place = still t.place i })) a refl old
  tallied_more NoPayload e m a old = more false false false true 0 0 0 m
      (e ∙ (λ i. record t { packets = t.packets + 1; null = still t.null i; rtp = still t.rtp i; other_type = still t.other_type i; payload = t.payload + 1; place = still t.place i })) a refl old
  tallied_more NoPlace e m a old = more false false false false 1 1 0 m
      (e ∙ (λ i. record t { packets = t.packets + 1; null = still t.null i; rtp = still t.rtp i; other_type = still t.other_type i; payload = still t.payload i; place = t.place + 1 })) a refl old
  tallied_more Accepted e m a old = more false false false false 1 0 1 m
      (e ∙ (λ i. record t { packets = t.packets + 1; null = still t.null i; rtp = still t.rtp i; other_type = still t.other_type i; payload = still t.payload i; place = still t.place i })) a refl old

-- the counts in the end are those of the records
pub counted_right : (job : RecordJob) (t : Counts) (v kept : Kept) (records : List (List ℕ)) (h : List Packet)
    → h ≡ packets_of job.plan.profile job.pt records → Tallied (recording_of job) t records
    → v.late ≡ late_count (rules_in job.plan) h → v.copies ≡ copy_count (rules_in job.plan) h
    → kept.late ≡ v.late → kept.copies ≡ v.copies → kept.blocks ≡ block_count (rules_in job.plan) h
    → counted_in_all t kept ≡ counts_of (recording_of job) records
counted_right job t v kept records h is tallied late copies late_same copies_same blocks =
    let rules = rules_in job.plan in
    let p = tallied.place in
    let place : t.place ≡ packets_in (recording_of job) records - accepted_in (recording_of job) records = omega (arith, p) in
    λ i. record {
      packets = tallied.packets i;
      null = tallied.null i;
      rtp = tallied.rtp i;
      other_type = tallied.other_type i;
      payload = tallied.payload i;
      place = place i;
      late = (late_same ∙ late ∙ ap (late_count rules) is) i;
      copies = (copies_same ∙ copies ∙ ap (copy_count rules) is) i;
      blocks = (blocks ∙ ap (block_count rules) is) i;
      sent = tallied.sent i;
      refused = record { items = [] };
    }

-- each record is one more, whatever became of it
pub packets_more : (c : Counts) (heard : Heard) → (counted_as c heard).packets ≡ c.packets + 1
packets_more c Null = refl
packets_more c NoRtp = refl
packets_more c OtherType = refl
packets_more c NoPayload = refl
packets_more c NoPlace = refl
packets_more c Accepted = refl
