-- The counts of a recording: ours. A record counts under the first of these that holds: it has no octet, it isn't an
-- RTP packet, its payload type isn't the asked one, its payload isn't one of the format, it isn't accepted.
use Rattle.std.specs.Prelude.{ℕ, Bool, true, false, not, ◌&&◌, List, [], ◌∷◌, length, filter, Option, Result, Ok, Err, is_some}
use Rattle.amr_frame.specs.declared.profile.Profile.{Profile}
use Rattle.run_report.specs.declared.counts.Counts.{Counts}
use Rattle.spec_packet.specs.Rtp.{RtpPacket}
use Rattle.spec_packet.specs.RtpReading.{rtp_of}
use Rattle.spec_packet.specs.declared.refusal.RtpRefusal.{RtpRefusal}
use Rattle.spec_payload.specs.Strict.{refusal_in}
use Rattle.spec_record.specs.Recording.{Recording}
use Rattle.spec_segments.specs.Counts.{block_count, copy_count, late_count, refused_count}
use Rattle.spec_session.specs.Packets.{is_asked, packets_of}

-- a record of no octets
abbrev pub is_null : List ℕ → Bool
is_null [] = true
is_null (o ∷ octets) = false

abbrev is_refused_header : Result RtpPacket RtpRefusal → Bool
is_refused_header (Ok packet) = false
is_refused_header (Err why) = true

-- a record that isn't an RTP packet
abbrev pub is_no_rtp : List ℕ → Bool
is_no_rtp octets = not (is_null octets) && is_refused_header (rtp_of octets)

abbrev has_other_type : Option ℕ → Result RtpPacket RtpRefusal → Bool
has_other_type asked (Ok packet) = not (is_asked asked packet.payload_type)
has_other_type asked (Err why) = false

-- a packet of another payload type than the asked one
abbrev pub is_other_type : Option ℕ → List ℕ → Bool
is_other_type asked octets = not (is_null octets) && has_other_type asked (rtp_of octets)

abbrev has_no_payload : Profile → Option ℕ → Result RtpPacket RtpRefusal → Bool
has_no_payload p asked (Ok packet) = is_asked asked packet.payload_type && is_some (refusal_in p packet.payload)
has_no_payload p asked (Err why) = false

-- a packet whose payload isn't one of the format
abbrev pub is_no_payload : Profile → Option ℕ → List ℕ → Bool
is_no_payload p asked octets = not (is_null octets) && has_no_payload p asked (rtp_of octets)

abbrev pub count : (List ℕ → Bool) → List (List ℕ) → ℕ
count holds records = length (filter holds records)

-- what recording these records counts; it sends nothing and answers no offer
abbrev pub counts_of : Recording → List (List ℕ) → Counts
counts_of r records = let h = packets_of r.profile r.asked records in record {
  packets = length records;
  null = count is_null records;
  rtp = count is_no_rtp records;
  other_type = count (is_other_type r.asked) records;
  payload = count (is_no_payload r.profile r.asked) records;
  place = refused_count r.rules h;
  late = late_count r.rules h;
  copies = copy_count r.rules h;
  blocks = block_count r.rules h;
  sent = 0;
  refused = record { items = [] };
}
