-- What listing a record does: to the mode desk, and to the output. This project's own.
use Rattle.std.specs.Prelude.{◌≡◌, ℕ, List, [], ◌∷◌, ◌++◌, length, map, Result, Ok}
use Rattle.amr_io.specs.declared.sink.Sink as sink
use Rattle.amr_mode.specs.Standing.{StandsFor}
use Rattle.amr_mode.specs.declared.desk.ModeDesk.{ModeDesk}
use Rattle.list_engine.specs.Jobs.{desk_of, listing_of}
use Rattle.list_engine.specs.declared.job.ListJob.{ListJob}
use Rattle.run_report.specs.Written.{Writes}
use Rattle.spec_listing.specs.Listing.{listed_record, mode_in, packet_part}
use Rattle.spec_listing.specs.Payloads.{listed_payload}
use Rattle.spec_modes.specs.Desk.{DeskPlan, Event, Hear, Step, desk, requests}
use Rattle.spec_packet.specs.Rtp.{RtpPacket}
use Rattle.spec_packet.specs.RtpReading.{rtp_of}
use Rattle.spec_session.specs.Packets.{packets_of}

-- what befell the desk while these records were listed: each payload that is read is heard, and a
-- step is made behind it
abbrev pub heard_in : ListJob → List (List ℕ) → List Event
heard_in job records = requests (map (λ x. x.value.cmr) (packets_of job.profile job.pt records))

-- the desk heard these records
abbrev pub HeardRecords : ListJob → ModeDesk → List (List ℕ) → Type 0
HeardRecords job d records = StandsFor d (desk_of job) (heard_in job records)

-- a payload with this request is heard, and a step is made
abbrev pub heard_more : List Event → ℕ → List Event
heard_more events cmr = events ++ Hear cmr ∷ Step ∷ []

-- the desk heard one request more and made a step
abbrev pub HearsOne : ModeDesk → ModeDesk → ℕ → Type 0
HearsOne d d' cmr = (plan : DeskPlan) (events : List Event) → StandsFor d plan events
    → StandsFor d' plan (heard_more events cmr)

-- the text of a payload that is read, behind a front of its line
abbrev pub payload_line : ListJob → List ℕ → DeskPlan → List Event → ℕ → List ℕ → List ℕ
payload_line job front plan events cmr octets = front
    ++ listed_payload job.profile job.show_bits (desk plan (heard_more events cmr)).mode octets

-- what is listed of a packet, behind a front of its line
abbrev pub packet_line : ListJob → List ℕ → List (List ℕ) → List ℕ → RtpPacket → List ℕ
packet_line job front records octets p = front
    ++ packet_part (listing_of job) (mode_in (listing_of job) (records ++ octets ∷ [])) (Ok p)

-- what is listed of a record behind others
abbrev pub record_text : ListJob → List (List ℕ) → List ℕ → List ℕ
record_text job records octets =
    listed_record (listing_of job) (records ++ octets ∷ []) (length records)

-- a payload with this request is listed behind a front of its line
abbrev pub ListsPayload : {S E : Type 0} → sink.Ghosts S → ListJob → ModeDesk → List ℕ → ℕ
    → List ℕ → S → S → Result (Unit {0}) E → Type 0
ListsPayload k job d front cmr octets old new result = (plan : DeskPlan) (events : List Event)
    → StandsFor d plan events
    → Writes k (payload_line job front plan events cmr octets) old new result

-- the desk heard the record that this packet is
abbrev pub HearsPacket : ListJob → ModeDesk → ModeDesk → RtpPacket → Type 0
HearsPacket job d d' p = (records : List (List ℕ)) (octets : List ℕ) → rtp_of octets ≡ Ok p
    → HeardRecords job d records → HeardRecords job d' (records ++ octets ∷ [])

-- a packet is listed behind a front of its line
abbrev pub ListsPacket : {S E : Type 0} → sink.Ghosts S → ListJob → ModeDesk → List ℕ → RtpPacket
    → S → S → Result (Unit {0}) E → Type 0
ListsPacket k job d front p old new result = (records : List (List ℕ)) (octets : List ℕ)
    → rtp_of octets ≡ Ok p → HeardRecords job d records
    → Writes k (packet_line job front records octets p) old new result

-- the desk heard a record more
abbrev pub HearsRecord : ListJob → ModeDesk → ModeDesk → List ℕ → Type 0
HearsRecord job d d' octets = (records : List (List ℕ)) → HeardRecords job d records
    → HeardRecords job d' (records ++ octets ∷ [])

-- a record is listed behind `count` others
abbrev pub ListsRecord : {S E : Type 0} → sink.Ghosts S → ListJob → ModeDesk → ℕ → List ℕ → S → S
    → Result (Unit {0}) E → Type 0
ListsRecord k job d count octets old new result = (records : List (List ℕ))
    → HeardRecords job d records → length records ≡ count
    → Writes k (record_text job records octets) old new result
