-- The listing of a log of packets (RFC 4571, 2): for each record a line, in order. What is in a
-- line and how it is written is this project's own.
use Rattle.std.specs.Prelude.{ℕ, ◌+◌, Bool, cond, List, [], ◌∷◌, ◌++◌, length, map, take, flat_map, slice_index_or, Option, Some, None, Result, Ok, Err, codes, decimal}
use Rattle.std.specs.List.{range_with_len}
use Rattle.amr_bits.specs.Bits.{nat, filled}
use Rattle.amr_frame.specs.declared.profile.Profile.{Profile}
use Rattle.hex.specs.Hex.{encode_lower}
use Rattle.spec_listing.specs.Payloads.{bit, listed_payload}
use Rattle.spec_listing.specs.Refusals.{field, payload_refusal_text, rtp_refusal_text}
use Rattle.spec_modes.specs.Desk.{DeskPlan, mode_after}
use Rattle.spec_packet.specs.Rtp.{RtpPacket}
use Rattle.spec_packet.specs.RtpReading.{rtp_of}
use Rattle.spec_packet.specs.declared.refusal.RtpRefusal.{RtpRefusal}
use Rattle.spec_payload.specs.Strict.{refusal_in}
use Rattle.spec_payload.specs.declared.refusal.PayloadRefusal.{PayloadRefusal}
use Rattle.run_report.specs.Lines.{no_counts}
use Rattle.run_report.specs.declared.report.CountLines.TheVariants as lines
use Rattle.spec_run.specs.LogRuns.{RecordsJob, log_meaning}
use Rattle.spec_run.specs.Meanings.{Meaning}
use Rattle.spec_session.specs.Packets.{is_asked, packets_of}

-- what a listing goes by: the format, the payload type or any, the mode desk, and whether the
-- bits of frames are listed
pub record Listing : Type 0 where
  pub profile : Profile
  pub asked : Option ℕ
  pub desk : DeskPlan
  pub bits : Bool

-- the mode of the desk after these records: at each payload that is read it hears the request and
-- makes a step
abbrev pub mode_in : Listing → List (List ℕ) → ℕ
mode_in l records =
    mode_after l.desk (map (λ x. x.value.cmr) (packets_of l.profile l.asked records))

-- a refusal at the end of a line
abbrev pub refused : List ℕ → List ℕ
refused why = codes " refused=" ++ why ++ codes "\n"

-- the fields of a packet
abbrev pub head_text : RtpPacket → List ℕ
head_text packet =
    field (codes "pt") packet.payload_type ++ field (codes "m") (bit packet.marker)
    ++ field (codes "seq") packet.sequence ++ field (codes "ts") packet.timestamp
    ++ codes " ssrc=" ++ encode_lower (filled (nat 32 packet.ssrc))

abbrev pub payload_or_refusal : Listing → ℕ → List ℕ → Option PayloadRefusal → List ℕ
payload_or_refusal l mode payload (Some why) = refused (payload_refusal_text why)
payload_or_refusal l mode payload None = listed_payload l.profile l.bits mode payload

-- the payload of a packet: another type than the asked one is told without looking at it
abbrev pub payload_part : Listing → ℕ → RtpPacket → List ℕ
payload_part l mode packet = cond (is_asked l.asked packet.payload_type)
    (payload_or_refusal l mode packet.payload (refusal_in l.profile packet.payload))
    (refused (codes "type"))

abbrev pub packet_part : Listing → ℕ → Result RtpPacket RtpRefusal → List ℕ
packet_part l mode (Err why) = refused (rtp_refusal_text why)
packet_part l mode (Ok packet) = head_text packet ++ payload_part l mode packet

abbrev pub record_part : Listing → ℕ → List ℕ → List ℕ
record_part l mode [] = codes " null\n"
record_part l mode (o ∷ octets) = packet_part l mode (rtp_of (o ∷ octets))

-- what record n of a log is listed as: its number, its length, and what it is
abbrev pub listed_record : Listing → List (List ℕ) → ℕ → List ℕ
listed_record l records n = let octets = slice_index_or records n [] in
    decimal n ++ codes " " ++ decimal (length octets)
    ++ record_part l (mode_in l (take (n + 1) records)) octets

-- the listing of records
abbrev pub listing : Listing → List (List ℕ) → List ℕ
listing l records = flat_map (listed_record l records) (range_with_len 0 (length records))

-- what listing does with records: the lines of each are out before the next is looked for;
-- nothing is counted or noted
abbrev pub list_job : Listing → RecordsJob
list_job l = record {
  early = listing l;
  whole = listing l;
  counts = λ records. no_counts;
  lines = lines.None;
}

-- what it means, where at most `limit` octets are taken
abbrev pub list_meaning : Listing → ℕ → Meaning
list_meaning l limit = log_meaning limit (list_job l)
