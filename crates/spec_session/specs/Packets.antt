-- Well-formed packets: records that are an RTP packet (RFC 3550, 5.1) of the asked payload type, whose
-- payload is one of the format (RFC 4867, 4).
use Rattle.std.specs.Prelude.{ℕ, Bool, true, cond, nat_eq, List, filter_map, Option, Some, None, Result, Ok, Err}
use Rattle.amr_frame.specs.declared.profile.Profile.{Profile}
use Rattle.spec_packet.specs.Rtp.{RtpPacket}
use Rattle.spec_packet.specs.RtpReading.{rtp_of}
use Rattle.spec_packet.specs.declared.refusal.RtpRefusal.{RtpRefusal}
use Rattle.spec_payload.specs.Strict.{taken_as}
use Rattle.spec_payload.specs.Values.{Value}
use Rattle.spec_payload.specs.declared.refusal.PayloadRefusal.{PayloadRefusal}

-- what a session goes by: the source, the sequence number, the timestamp, and what the payload says as it is seen
pub record Packet : Type 0 where
  pub ssrc : ℕ
  pub sequence : ℕ
  pub timestamp : ℕ
  pub value : Value

-- whether a payload type is the asked one; every type is where none is asked
abbrev pub is_asked : Option ℕ → ℕ → Bool
is_asked None payload_type = true
is_asked (Some asked) payload_type = nat_eq asked payload_type

abbrev with_value : RtpPacket → Result Value PayloadRefusal → Option Packet
with_value rtp (Ok v) = Some (record {
  ssrc = rtp.ssrc;
  sequence = rtp.sequence;
  timestamp = rtp.timestamp;
  value = v;
})
with_value rtp (Err why) = None

abbrev with_header : Profile → Option ℕ → Result RtpPacket RtpRefusal → Option Packet
with_header p asked (Ok rtp) = cond (is_asked asked rtp.payload_type) (with_value rtp (taken_as p rtp.payload)) None
with_header p asked (Err why) = None

-- the packet that a record is, where it is well-formed
abbrev pub packet_of : Profile → Option ℕ → List ℕ → Option Packet
packet_of p asked octets = with_header p asked (rtp_of octets)

-- the well-formed packets among records, in order
abbrev pub packets_of : Profile → Option ℕ → List (List ℕ) → List Packet
packets_of p asked records = filter_map (packet_of p asked) records
