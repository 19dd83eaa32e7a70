-- The packets of the records that are accepted are the accepted packets.
use Rattle.std.proofs.Common.{◌≡◌, ℕ, Bool, true, false, cond, List, [], ◌∷◌, ◌++◌, sym, refl, ap, ◌∙◌, append_assoc}
use Rattle.std.proofs.Common.{Option, Some, None}
use Rattle.std.specs.Prelude.{fold, flat_map, filter_map}
use Rattle.std.specs.List.{cons_option}
use Rattle.std.proofs.lemmas.List.{append-nil, map-append}
use Rattle.std.proofs.lemmas.List.Concat.{flat_map-append}
use Rattle.std.proofs.lemmas.List.Elements.{filter_map-append}
use Rattle.segment_laws.proofs.Accepting.{alone_reception}
use Rattle.segment_laws.proofs.Alone.{accepts_it}
use Rattle.segment_laws.specs.One.{IsOneSegment, Reception, packets, without_refused}
use Rattle.spec_record.specs.Recording.{Recording, early_of, file_of, heard}
use Rattle.spec_segments.specs.Release.{gone_out, released}
use Rattle.spec_segments.specs.Segments.{SegmentVerdict, Segments, Begins, Within, accepted_of, at_start, follows}
use Rattle.spec_segments.specs.Segments.{judged, passed, with_packet}
use Rattle.spec_session.specs.Packets.{Packet, packet_of}
use Rattle.spec_session.specs.Session as session
use Rattle.spec_session.specs.Session.{Rules, Accepted, Verdict, Accept, OtherSource, OffGrid, FarAhead, begun}
use Rattle.spec_store.specs.StorageFile.{storage_file}
use Rattle.stranger_laws.specs.Strangers.{accepted_behind, accepted_records, behind, is_accepted, is_accepting}

-- the accepted packets of all segments
abbrev kept : Segments → List Packet
kept s = packets (accepted_of s)

-- what a packet with a verdict adds to them
abbrev added : Packet → SegmentVerdict → List Packet
added x w = cond (is_accepting w) (x ∷ []) []

joined : (s : Segments) (a : Accepted) →
    packets (flat_map (λ segment. segment) s.closed ++ (s.last ++ a ∷ [])) ≡ kept s ++ a.packet ∷ []
joined s a =
    ap packets (sym (append_assoc (flat_map (λ segment. segment) s.closed) s.last (a ∷ [])))
    ∙ map-append (λ (b : Accepted). b.packet) (accepted_of s) (a ∷ [])

opened : (s : Segments) (x : Packet) →
    packets (flat_map (λ segment. segment) (s.closed ++ s.last ∷ []) ++ begun x ∷ []) ≡ kept s ++ x ∷ []
opened s x =
    ap (λ c. packets (c ++ begun x ∷ []))
    (flat_map-append (λ segment. segment) s.closed (s.last ∷ [])
    ∙ ap (λ l. flat_map (λ segment. segment) s.closed ++ l) (append-nil s.last))
    ∙ map-append (λ (b : Accepted). b.packet) (accepted_of s) (begun x ∷ [])

-- a packet that the last segment refuses begins another, or adds nothing
unplaced : (s : Segments) (x : Packet) (v : Verdict) → is_accepting (Within v) ≡ false →
    kept (passed s x (Within v)) ≡ kept s →
    kept (passed s x (cond (follows s.stray x.sequence) (Begins (begun x)) (Within v)))
    ≡ kept s ++ added x (cond (follows s.stray x.sequence) (Begins (begun x)) (Within v))
unplaced s x v refused stays =
    elim (follows s.stray x.sequence) as
    (λ b. kept (passed s x (cond b (Begins (begun x)) (Within v)))
    ≡ kept s ++ added x (cond b (Begins (begun x)) (Within v))) [
      | true ↦ opened s x
      | false ↦ stays ∙ sym (append-nil (kept s)) ∙ ap (λ b. kept s ++ cond b (x ∷ []) []) (sym refused)
    ]

one_by : (rules : Rules) (s : Segments) (x : Packet) (v : Verdict) → session.verdict rules s.last x ≡ v →
    kept (passed s x (judged s x v)) ≡ kept s ++ added x (judged s x v)
one_by rules s x (Accept a) e =
    joined s a ∙ ap (λ p. kept s ++ p ∷ []) (accepts_it rules s.last x a e)
one_by rules s x (OtherSource had got) e = sym (append-nil (kept s))
one_by rules s x (OffGrid delta) e = unplaced s x (OffGrid delta) refl refl
one_by rules s x (FarAhead h last) e = unplaced s x (FarAhead h last) refl refl

one_more : (rules : Rules) (s : Segments) (x : Packet) →
    kept (with_packet rules s x) ≡ kept s ++ cond (is_accepted rules s (Some x)) (x ∷ []) []
one_more rules s x = one_by rules s x (session.verdict rules s.last x) refl

-- the packets among a record that is chosen or not
heard_one : (f : List ℕ → Option Packet) (octets : List ℕ) (x : Packet) → f octets ≡ Some x → (b : Bool) →
    filter_map f (cond b (octets ∷ []) []) ≡ cond b (x ∷ []) []
heard_one f octets x e true = ap (λ o. cons_option o []) e
heard_one f octets x e false = refl

-- one record more, by the packet that it is
more : (r : Recording) (s : Segments) (octets : List ℕ) (records : List (List ℕ)) (o : Option Packet) →
    packet_of r.profile r.asked octets ≡ o →
    kept (fold (with_packet r.rules) (behind r.rules s o) (heard r records))
    ≡ kept (behind r.rules s o) ++ heard r (accepted_behind r (behind r.rules s o) records) →
    kept (fold (with_packet r.rules) s (cons_option o (heard r records)))
    ≡ kept s ++ heard r (cond (is_accepted r.rules s o) (octets ∷ []) []
    ++ accepted_behind r (behind r.rules s o) records)
more r s octets records None e k = k
more r s octets records (Some x) e k =
    let b = is_accepted r.rules s (Some x) in
    let rest = accepted_behind r (with_packet r.rules s x) records in
    k
    ∙ ap (λ l. l ++ heard r rest) (one_more r.rules s x)
    ∙ append_assoc (kept s) (cond b (x ∷ []) []) (heard r rest)
    ∙ ap (λ l. kept s ++ (l ++ heard r rest)) (sym (heard_one (packet_of r.profile r.asked) octets x e b))
    ∙ ap (λ l. kept s ++ l)
    (sym (filter_map-append (packet_of r.profile r.asked) (cond b (octets ∷ []) []) rest))

chosen : (r : Recording) (records : List (List ℕ)) (s : Segments) →
    kept (fold (with_packet r.rules) s (heard r records)) ≡ kept s ++ heard r (accepted_behind r s records)
chosen r [] s = sym (append-nil (kept s))
chosen r (octets ∷ records) s =
    let o = packet_of r.profile r.asked octets in
    more r s octets records o refl (chosen r records (behind r.rules s o))

pub chosen_packets : (r : Recording) (records : List (List ℕ)) →
    heard r (accepted_records r records) ≡ without_refused r.rules (heard r records)
chosen_packets r records = sym (chosen r records at_start)

-- so both files are the same
pub chosen_file : (r : Recording) (records : List (List ℕ)) → IsOneSegment r.rules (heard r records) →
    file_of r (accepted_records r records) ≡ file_of r records
chosen_file r records one =
    ap (λ h. storage_file r.rules.codec r.rules.channels (released r.rules h)) (chosen_packets r records)
    ∙ ap (λ (c : Reception). storage_file r.rules.codec r.rules.channels c.released)
    (alone_reception r.rules (heard r records) one)

pub chosen_early : (r : Recording) (records : List (List ℕ)) → IsOneSegment r.rules (heard r records) →
    early_of r (accepted_records r records) ≡ early_of r records
chosen_early r records one =
    ap (λ h. storage_file r.rules.codec r.rules.channels (gone_out r.rules h)) (chosen_packets r records)
    ∙ ap (λ (c : Reception). storage_file r.rules.codec r.rules.channels c.gone)
    (alone_reception r.rules (heard r records) one)
