-- The listing of a record behind others, and what it does to the mode desk.
use Rattle.std.proofs.Common.{◌≡◌, ℕ, ◌+◌, true, false, List, [], ◌∷◌, ◌++◌, length, map, take}
use Rattle.std.proofs.Common.{refl, sym, ap, ◌∙◌, subst, arith, append-nil, flat_map, length-append}
use Rattle.std.proofs.Common.{slice_index_or, codes, decimal, Some, None, Ok, Err}
use Rattle.std.specs.List.{range_with_len}
use Rattle.std.proofs.lemmas.List.{map-append, take_all}
use Rattle.std.proofs.lemmas.List.Concat.{flat_map-append}
use Rattle.std.proofs.lemmas.List.Elements.{filter_map-append}
use Rattle.amr_mode.specs.Standing.{StandsFor}
use Rattle.amr_mode.specs.declared.desk.ModeDesk.{ModeDesk}
use Rattle.list_engine.specs.Jobs.{desk_of, listing_of}
use Rattle.list_engine.specs.Records.{HeardRecords, HearsOne, heard_in, heard_more, record_text}
use Rattle.list_engine.specs.declared.job.ListJob.{ListJob}
use Rattle.list_engine.proofs.Texts.{texts_more}
use Rattle.listing_laws.proofs.Lines.{same_line, same_on}
use Rattle.spec_listing.specs.Listing.{listed_record, listing, mode_in, record_part}
use Rattle.spec_modes.specs.Desk.{Event, Hear, Step, desk, requests}
use Rattle.spec_packet.specs.Rtp.{RtpPacket}
use Rattle.spec_packet.specs.RtpReading.{rtp_of}
use Rattle.spec_packet.specs.declared.refusal.RtpRefusal.{RtpRefusal}
use Rattle.spec_payload.specs.Strict.{refusal_in, taken_as}
use Rattle.spec_payload.specs.Values.{Value}
use Rattle.spec_payload.specs.declared.refusal.PayloadRefusal.{PayloadRefusal}
use Rattle.spec_session.specs.Packets.{Packet, is_asked, packet_of, packets_of}

-- one request behind others, and a step
requests_more : (cmrs : List ℕ) (cmr : ℕ)
    → requests (cmrs ++ cmr ∷ []) ≡ heard_more (requests cmrs) cmr
requests_more cmrs cmr = flat_map-append (λ (c : ℕ). Hear c ∷ Step ∷ []) cmrs (cmr ∷ [])

-- a record that is no packet of the session
heard_same : (job : ListJob) (records : List (List ℕ)) (octets : List ℕ)
    → packet_of job.profile job.pt octets ≡ None
    → heard_in job (records ++ octets ∷ []) ≡ heard_in job records
heard_same job records octets none =
    let of = packet_of job.profile job.pt in
    let no_more : packets_of job.profile job.pt (octets ∷ []) ≡ [] = rw none refl in
    ap (λ (ps : List Packet). requests (map (λ x. x.value.cmr) ps))
    (filter_map-append of records (octets ∷ []) ∙ ap
    (λ more. packets_of job.profile job.pt records ++ more) no_more
    ∙ append-nil (packets_of job.profile job.pt records))

-- a record that is a packet of the session
heard_next : (job : ListJob) (records : List (List ℕ)) (octets : List ℕ) (x : Packet)
    → packet_of job.profile job.pt octets ≡ Some x
    → heard_in job (records ++ octets ∷ []) ≡ heard_more (heard_in job records) x.value.cmr
heard_next job records octets x is =
    let of = packet_of job.profile job.pt in
    let cmr = λ (y : Packet). y.value.cmr in
    let one : packets_of job.profile job.pt (octets ∷ []) ≡ x ∷ [] = rw is refl in
    ap (λ (ps : List Packet). requests (map cmr ps))
    (filter_map-append of records (octets ∷ []) ∙ ap
    (λ more. packets_of job.profile job.pt records ++ more) one)
    ∙ ap requests (map-append cmr (packets_of job.profile job.pt records) (x ∷ []))
    ∙ requests_more (map cmr (packets_of job.profile job.pt records)) x.value.cmr

-- what a record is, by what its reading gave
pub no_packet : (job : ListJob) (octets : List ℕ) (why : RtpRefusal) → rtp_of octets ≡ Err why
    → packet_of job.profile job.pt octets ≡ None
no_packet job octets why e = rw e refl

pub other_type : (job : ListJob) (octets : List ℕ) (p : RtpPacket) → rtp_of octets ≡ Ok p
    → is_asked job.pt p.payload_type ≡ false → packet_of job.profile job.pt octets ≡ None
other_type job octets p e a = rw e rw a refl

pub no_payload : (job : ListJob) (octets : List ℕ) (p : RtpPacket) (why : PayloadRefusal)
    → rtp_of octets ≡ Ok p → is_asked job.pt p.payload_type ≡ true
    → refusal_in job.profile p.payload ≡ Some why → packet_of job.profile job.pt octets ≡ None
no_payload job octets p why e a r = rw e rw a rw r refl

abbrev pub said_by : RtpPacket → Value → Packet
said_by p v = record { ssrc = p.ssrc; sequence = p.sequence; timestamp = p.timestamp; value = v }

pub is_packet : (job : ListJob) (octets : List ℕ) (p : RtpPacket) (v : Value) → rtp_of octets ≡ Ok p
    → is_asked job.pt p.payload_type ≡ true → taken_as job.profile p.payload ≡ Ok v
    → packet_of job.profile job.pt octets ≡ Some (said_by p v)
is_packet job octets p v e a r = rw e rw a rw r refl

-- the desk stays where the record is no packet of the session, and else it hears the request
pub desk_stays : (job : ListJob) (d : ModeDesk) (records : List (List ℕ)) (octets : List ℕ)
    → packet_of job.profile job.pt octets ≡ None
    → HeardRecords job d records → HeardRecords job d (records ++ octets ∷ [])
desk_stays job d records octets none heard =
    subst (StandsFor d (desk_of job)) (sym (heard_same job records octets none)) heard

pub desk_hears : (job : ListJob) (d d' : ModeDesk) (records : List (List ℕ)) (octets : List ℕ)
    (x : Packet) → packet_of job.profile job.pt octets ≡ Some x → HearsOne d d' x.value.cmr
    → HeardRecords job d records → HeardRecords job d' (records ++ octets ∷ [])
desk_hears job d d' records octets x is hears heard =
    subst (StandsFor d' (desk_of job)) (sym (heard_next job records octets x is))
    (hears (desk_of job) (heard_in job records) heard)

-- the mode that is told of a packet of the session
pub mode_is : (job : ListJob) (records : List (List ℕ)) (octets : List ℕ) (x : Packet)
    → packet_of job.profile job.pt octets ≡ Some x
    → (desk (desk_of job) (heard_more (heard_in job records) x.value.cmr)).mode
    ≡ mode_in (listing_of job) (records ++ octets ∷ [])
mode_is job records octets x is =
    ap (λ (es : List Event). (desk (desk_of job) es).mode)
    (sym (heard_next job records octets x is))

-- the last record
last_is : (records : List (List ℕ)) (octets : List ℕ)
    → slice_index_or (records ++ octets ∷ []) (length records) [] ≡ octets
last_is [] octets = refl
last_is (r ∷ records) octets = last_is records octets

-- all records
all_taken : (records : List (List ℕ)) (octets : List ℕ)
    → take (length records + 1) (records ++ octets ∷ []) ≡ records ++ octets ∷ []
all_taken records octets =
    let size : length (records ++ octets ∷ []) ≡ length records + 1 = length-append records
    (octets ∷ []) in
    take_all (length records + 1) (records ++ octets ∷ []) (omega (arith, size))

-- the text of a record behind others
pub text_is : (job : ListJob) (records : List (List ℕ)) (octets : List ℕ) (n : ℕ)
    → length records ≡ n
    → decimal n ++ codes " " ++ decimal (length octets)
    ++ record_part (listing_of job) (mode_in (listing_of job) (records ++ octets ∷ [])) octets
    ≡ record_text job records octets
text_is job records octets n is =
    let l = listing_of job in
    ap (λ m. decimal m ++ codes " " ++ decimal (length octets) ++ record_part l
    (mode_in l (records ++ octets ∷ [])) octets) (sym is)
    ∙ sym (λ i. decimal (length records) ++ codes " " ++ decimal (length (last_is records octets i))
    ++ record_part l (mode_in l (all_taken records octets i)) (last_is records octets i))

-- the listing of one record more
pub listing_more : (job : ListJob) (records : List (List ℕ)) (octets : List ℕ)
    → listing (listing_of job) (records ++ octets ∷ [])
    ≡ listing (listing_of job) records ++ record_text job records octets
listing_more job records octets =
    let l = listing_of job in
    let all = records ++ octets ∷ [] in
    let n = length records in
    let f = listed_record l all in
    let last : 0 + n ≡ n = omega arith in
    ap (λ m. flat_map f (range_with_len 0 m)) (length-append records (octets ∷ []))
    ∙ texts_more f 0 n
    ∙ (λ i. same_on f (listed_record l records) 0 n
    (λ k low high. same_line l records (octets ∷ []) k (omega (arith, high))) i ++ f (last i))
