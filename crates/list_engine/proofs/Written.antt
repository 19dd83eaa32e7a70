-- What is written of a payload, a packet and a record, by the line that was gathered.
use Rattle.std.proofs.Common.{◌≡◌, ℕ, ◌+◌, ◌<◌, cond, true, false, List, [], ◌∷◌, ◌++◌, length}
use Rattle.std.proofs.Common.{refl, sym, ap, ◌∙◌, subst, arith, append_assoc, flat_map}
use Rattle.std.proofs.Common.{length-append, codes, decimal, Some, None, Result, Ok, Err}
use Rattle.std.specs.List.{range_with_len}
use Rattle.std.proofs.KnownBytes.{Appends-nil}
use Rattle.amr_frame.specs.declared.profile.Profile.{Profile}
use Rattle.amr_io.specs.declared.sink.Sink as sink
use Rattle.amr_mode.specs.Standing.{StandsFor}
use Rattle.amr_mode.specs.declared.desk.ModeDesk.{ModeDesk}
use Rattle.amr_toc.specs.Viewed.{format_of, octets_of}
use Rattle.amr_toc.specs.declared.view.PayloadView.{PayloadView}
use Rattle.list_engine.proofs.Records.{listing_more, mode_is, said_by, text_is}
use Rattle.list_engine.proofs.Texts.{regroup, texts_next, texts_split}
use Rattle.list_engine.specs.Going.{Stands}
use Rattle.list_engine.specs.Jobs.{desk_of, listing_of}
use Rattle.list_engine.specs.Payloads.{all_bits_said, payload_said}
use Rattle.list_engine.specs.Records.{HearsOne, HearsRecord, ListsRecord, heard_in, heard_more}
use Rattle.list_engine.specs.Records.{packet_line, payload_line, record_text}
use Rattle.list_engine.specs.declared.job.ListJob.{ListJob}
use Rattle.log_engine.specs.Puts.{Puts, PutsPart}
use Rattle.run_report.proofs.Fronts.{writes_both, writes_first}
use Rattle.run_report.specs.Written.{Writes}
use Rattle.spec_listing.specs.Listing.{head_text, listing, mode_in, packet_part, payload_or_refusal}
use Rattle.spec_listing.specs.Listing.{record_part, refused}
use Rattle.spec_listing.specs.Payloads.{listed_payload}
use Rattle.spec_listing.specs.Refusals.{payload_refusal_text}
use Rattle.spec_modes.specs.Desk.{DeskPlan, Event, Hear, Step, desk}
use Rattle.spec_packet.specs.Rtp.{RtpPacket}
use Rattle.spec_packet.specs.RtpReading.{rtp_of}
use Rattle.spec_payload.specs.Strict.{refusal_in}
use Rattle.spec_payload.specs.Values.{Value}
use Rattle.spec_payload.specs.declared.refusal.PayloadRefusal.{PayloadRefusal}
use Rattle.spec_record.specs.RecordCounts.{is_null}
use Rattle.spec_session.specs.Packets.{is_asked, packet_of}

-- a request is heard and a step is made
module _ (d d1 d2 : ModeDesk) (cmr said : ℕ) (is : cmr ≡ said)
    (hear : (plan : DeskPlan) (events : List Event) → StandsFor d plan events
    → StandsFor d1 plan (events ++ Hear cmr ∷ [])) where
  both_events : (events : List Event)
      → (events ++ Hear cmr ∷ []) ++ Step ∷ [] ≡ heard_more events said
  both_events events =
      append_assoc events (Hear cmr ∷ []) (Step ∷ []) ∙ ap (λ (c : ℕ). heard_more events c) is

  pub hears_one : ((plan : DeskPlan) (events : List Event) → StandsFor d1 plan events
      → StandsFor d2 plan (events ++ Step ∷ [])) → HearsOne d d2 said
  hears_one step = λ plan events stands.
      subst (StandsFor d2 plan) (both_events events)
      (step plan (events ++ Hear cmr ∷ []) (hear plan events stands))

  pub mode_heard : (m : ℕ) → ((plan : DeskPlan) (events : List Event) → StandsFor d1 plan events
      → m ≡ (desk plan (events ++ Step ∷ [])).mode)
      → (plan : DeskPlan) (events : List Event) → StandsFor d plan events
      → m ≡ (desk plan (heard_more events said)).mode
  mode_heard m told plan events stands =
      told plan (events ++ Hear cmr ∷ []) (hear plan events stands)
      ∙ ap (λ (es : List Event). (desk plan es).mode) (both_events events)

-- a record of some octets is a packet, or why it is none
pub part_is : (job : ListJob) (mode : ℕ) (octets : List ℕ) → is_null octets ≡ false
    → packet_part (listing_of job) mode (rtp_of octets) ≡ record_part (listing_of job) mode octets
part_is job mode [] some = absurd cc
part_is job mode (o ∷ octets) some = refl

pub null_part : (job : ListJob) (mode : ℕ) (octets : List ℕ) → octets ≡ []
    → codes " null\n" ≡ record_part (listing_of job) mode octets
null_part job mode [] none = refl
null_part job mode (o ∷ octets) none = absurd cc

pub null_packet : (job : ListJob) (octets : List ℕ) → octets ≡ []
    → packet_of job.profile job.pt octets ≡ None
null_packet job [] none = refl
null_packet job (o ∷ octets) none = absurd cc

-- what stands in front of each line
pub front_is : (n size : ℕ) (octets a b line : List ℕ) → a ≡ [] → b ≡ a ++ decimal n
    → line ≡ b ++ (codes " " ++ decimal size) → size ≡ length octets
    → line ≡ decimal n ++ codes " " ++ decimal (length octets)
front_is n size octets a b line none number named is =
    named ∙ ap (λ t. t ++ (codes " " ++ decimal size)) (number ∙ ap (λ t. t ++ decimal n) none)
    ∙ sym (append_assoc (decimal n) (codes " ") (decimal size))
    ∙ ap (λ m. decimal n ++ codes " " ++ decimal m) is

module _ {S E : Type 0} (k : sink.Ghosts S) where
  -- nothing is written
  pub nothing : ((o : S) → k.same o o) → (old : S) → Writes {E = E} k [] old old (Ok tt)
  nothing law old = record {
    whole = Appends-nil (k.got old);
    part = tt;
    none = λ e. (refl, refl);
    step = record { cause = refl; beside = refl; same = law old };
  }

  -- a packet of another type
  pub other_listed : (job : ListJob) (front : List ℕ) (mode : ℕ) (p : RtpPacket) (line : List ℕ)
      (old new : S) (r : Result (Unit {0}) E) → is_asked job.pt p.payload_type ≡ false
      → line ≡ (front ++ head_text p) ++ codes " refused=type\n" → Writes k line old new r
      → Writes k (front ++ packet_part (listing_of job) mode (Ok p)) old new r
  other_listed job front mode p line old new r asked is wrote =
      let l = listing_of job in
      subst (λ (t : List ℕ). Writes k t old new r)
      (is ∙ append_assoc front (head_text p) (codes " refused=type\n")
      ∙ ap (λ b. front ++ (head_text p ++ cond b
      (payload_or_refusal l mode p.payload (refusal_in l.profile p.payload))
      (refused (codes "type")))) (sym asked))
      wrote

  -- a packet whose payload is refused
  pub refused_listed : (job : ListJob) (front : List ℕ) (mode : ℕ) (p : RtpPacket)
      (why : PayloadRefusal) (line : List ℕ) (old new : S) (r : Result (Unit {0}) E)
      → is_asked job.pt p.payload_type ≡ true → refusal_in job.profile p.payload ≡ Some why
      → line ≡ (front ++ head_text p) ++ codes " refused=" ++ payload_refusal_text why ++ codes "\n"
      → Writes k line old new r
      → Writes k (front ++ packet_part (listing_of job) mode (Ok p)) old new r
  refused_listed job front mode p why line old new r asked refusal is wrote =
      let l = listing_of job in
      subst (λ (t : List ℕ). Writes k t old new r)
      (is ∙ regroup (front ++ head_text p) (codes " refused=") (payload_refusal_text why)
      (codes "\n")
      ∙ append_assoc front (head_text p) (refused (payload_refusal_text why))
      ∙ ap (λ o. front ++ (head_text p ++ payload_or_refusal l mode p.payload o)) (sym refusal)
      ∙ ap (λ b. front ++ (head_text p ++ cond b
      (payload_or_refusal l mode p.payload (refusal_in l.profile p.payload))
      (refused (codes "type")))) (sym asked))
      wrote

  -- a packet whose payload is read
  pub read_listed : (job : ListJob) (front : List ℕ) (records : List (List ℕ)) (octets : List ℕ)
      (p : RtpPacket) (v : Value) (line payload : List ℕ) (old new : S) (r : Result (Unit {0}) E)
      → is_asked job.pt p.payload_type ≡ true → refusal_in job.profile p.payload ≡ None
      → packet_of job.profile job.pt octets ≡ Some (said_by p v) → payload ≡ p.payload
      → line ≡ front ++ head_text p
      → Writes k (payload_line job line (desk_of job) (heard_in job records) v.cmr payload) old new
      r
      → Writes k (packet_line job front records octets p) old new r
  read_listed job front records octets p v line payload old new r asked none packet lent is wrote =
      let l = listing_of job in
      let mode = mode_in l (records ++ octets ∷ []) in
      let told = mode_is job records octets (said_by p v) packet in
      subst (λ (t : List ℕ). Writes k t old new r)
      ((λ i. is i ++ listed_payload job.profile job.show_bits (told i) (lent i))
      ∙ append_assoc front (head_text p) (listed_payload job.profile job.show_bits mode p.payload)
      ∙ ap (λ o. front ++ (head_text p ++ payload_or_refusal l mode p.payload o)) (sym none)
      ∙ ap (λ b. front ++ (head_text p ++ cond b
      (payload_or_refusal l mode p.payload (refusal_in l.profile p.payload))
      (refused (codes "type")))) (sym asked))
      wrote

  -- a record, by what is behind its length
  pub record_listed : (job : ListJob) (records : List (List ℕ)) (octets : List ℕ) (n : ℕ)
      (line part : List ℕ) (old new : S) (r : Result (Unit {0}) E) → length records ≡ n
      → line ≡ decimal n ++ codes " " ++ decimal (length octets)
      → part ≡ record_part (listing_of job) (mode_in (listing_of job) (records ++ octets ∷ []))
      octets
      → Writes k (line ++ part) old new r → Writes k (record_text job records octets) old new r
  record_listed job records octets n line part old new r size is part_of wrote =
      subst (λ (t : List ℕ). Writes k t old new r)
      ((λ i. is i ++ part_of i) ∙ text_is job records octets n size)
      wrote

  -- a record was handled, or a front of its text was written
  pub handled : (job : ListJob) (d d' : ModeDesk) (count : ℕ) (octets : List ℕ) (old new : S)
      → HearsRecord job d d' octets → ListsRecord {E = E} k job d count octets old new (Ok tt)
      → (records : List (List ℕ)) → Stands job d count records
      → Stands job d' (count + 1) (records ++ octets ∷ [])
      × Puts (k.got old) (k.got new) (listing (listing_of job) records)
      (listing (listing_of job) (records ++ octets ∷ []))
  handled job d d' count octets old new hears lists records s = (
    record {
      heard = hears records s.heard;
      counted = length-append records (octets ∷ []) ∙ ap (λ n. n + 1) s.counted;
    },
    record {
      more = record_text job records octets;
      put = (lists records s.heard s.counted).whole;
      grown = listing_more job records octets;
    },
  )

  pub handled_part : (job : ListJob) (d : ModeDesk) (count : ℕ) (octets : List ℕ) (old new : S)
      (e : E) → ListsRecord k job d count octets old new (Err e)
      → (records : List (List ℕ)) → Stands job d count records
      → PutsPart (k.got old) (k.got new) (listing (listing_of job) records)
      (listing (listing_of job) (records ++ octets ∷ []))
  handled_part job d count octets old new e lists records s =
      let f = (lists records s.heard s.counted).part in
      let before = listing (listing_of job) records in record {
        part = f.0;
        put = f.3;
        within = (
          f.1,
          listing_more job records octets ∙ ap (λ t. before ++ t) f.2 ∙ sym
              (append_assoc before f.0 f.1),
        );
      }

  module _ (through : (a b c : S) → k.same a b → k.same b c → k.same a c) where
    -- the texts of some numbers, and that of the next one
    pub write_next : (f : ℕ → List ℕ) (at : ℕ) (old mid new : S) (r : Result (Unit {0}) E)
        → Writes {E = E} k (flat_map f (range_with_len 0 at)) old mid (Ok tt)
        → Writes k (f at) mid new r
        → Writes k (flat_map f (range_with_len 0 (at + 1))) old new r
    write_next f at old mid new r so_far next =
        subst (λ (t : List ℕ). Writes k t old new r) (sym (texts_next f at))
        (writes_both k through (flat_map f (range_with_len 0 at)) (f at) old mid new r so_far next)

    -- the text of the next number fails, and no more is tried
    pub write_stops : (f : ℕ → List ℕ) (at n : ℕ) (old mid new : S) (e : E) → at < n
        → Writes {E = E} k (flat_map f (range_with_len 0 at)) old mid (Ok tt)
        → Writes k (f at) mid new (Err e)
        → Writes k (flat_map f (range_with_len 0 n)) old new (Err e)
    write_stops f at n old mid new e inside so_far next =
        subst (λ (t : List ℕ). Writes k t old new (Err e))
        (sym (texts_split f (at + 1) n (omega (arith, inside))))
        (writes_first k (flat_map f (range_with_len 0 (at + 1))) _ old new e
        (write_next f at old mid new (Err e) so_far next))

    -- a payload that is read
    module _ (job : ListJob) (front : List ℕ) (view : PayloadView) (m mode : ℕ) (line : List ℕ)
        (format : format_of view ≡ job.profile) (told : m ≡ mode)
        (is : line ≡ (front ++ payload_said view m) ++ codes "\n") where
      whole_line : (r : Result (Unit {0}) E) (old new : S)
          → Writes k (line ++ cond job.show_bits (all_bits_said view) []) old new r
          → Writes k (front ++ listed_payload job.profile job.show_bits mode (octets_of view)) old
          new r
      whole_line r old new wrote =
          let bits = cond job.show_bits (all_bits_said view) [] in
          subst (λ (p : Profile). Writes k (front ++ listed_payload p job.show_bits mode
          (octets_of view)) old new r) format
          (subst (λ (t : List ℕ). Writes k t old new r)
          (ap (λ t. t ++ bits) is ∙ regroup front (payload_said view m) (codes "\n") bits
          ∙ ap (λ (n : ℕ). front ++ (payload_said view n ++ codes "\n" ++ bits)) told) wrote)

      pub payload_listed : (old mid new : S) (r : Result (Unit {0}) E)
          → Writes {E = E} k line old mid (Ok tt)
          → Writes k (cond job.show_bits (all_bits_said view) []) mid new r
          → Writes k (front ++ listed_payload job.profile job.show_bits mode (octets_of view)) old
          new r
      payload_listed old mid new r first then = whole_line r old new
          (writes_both k through line (cond job.show_bits (all_bits_said view) []) old mid new r
          first then)

      pub payload_stops : (old new : S) (e : E) → Writes k line old new (Err e)
          → Writes k (front ++ listed_payload job.profile job.show_bits mode (octets_of view)) old
          new (Err e)
      payload_stops old new e first = whole_line (Err e) old new
          (writes_first k line (cond job.show_bits (all_bits_said view) []) old new e first)
