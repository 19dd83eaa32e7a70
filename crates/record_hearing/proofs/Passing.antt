-- Which test of a recording a record meets.
use Rattle.std.proofs.Common.{◌≡◌, ℕ, true, false, List, [], ◌∷◌, length, refl, Some, None, Ok, Err}
use Rattle.record_hearing.specs.Hearing.{IsOfSession, IsTold, Meets}
use Rattle.record_hearing.specs.declared.heard.Heard.{Heard}
use Rattle.record_hearing.specs.declared.heard.Heard.TheVariants.{Null, NoRtp, OtherType, NoPayload, NoPlace, Accepted}
use Rattle.spec_packet.specs.Rtp.{RtpPacket}
use Rattle.spec_packet.specs.RtpReading.{rtp_of}
use Rattle.spec_packet.specs.declared.refusal.RtpRefusal.{RtpRefusal}
use Rattle.spec_payload.specs.Strict.{refusal_in, taken_as}
use Rattle.spec_payload.specs.Values.{Value}
use Rattle.spec_payload.specs.declared.refusal.PayloadRefusal.{PayloadRefusal}
use Rattle.spec_record.specs.RecordCounts.{is_null}
use Rattle.spec_record.specs.Recording.{Recording}
use Rattle.spec_session.specs.Packets.{Packet, is_asked, packet_of, packets_of}

pub null_met : (r : Recording) (octets : List ℕ) → octets ≡ [] → Meets r octets true false false false 0
null_met r [] e = record { null_is = refl; rtp_is = refl; other_type_is = refl; payload_is = refl; packets_are = refl }
null_met r (o ∷ octets) e = absurd cc

none_among : (r : Recording) (octets : List ℕ) → packet_of r.profile r.asked octets ≡ None → length (packets_of r.profile r.asked (octets ∷ [])) ≡ 0
none_among r octets e = rw e refl

one_among : (r : Recording) (octets : List ℕ) (x : Packet) → packet_of r.profile r.asked octets ≡ Some x → length (packets_of r.profile r.asked (octets ∷ [])) ≡ 1
one_among r octets x e = rw e refl

pub no_rtp_met : (r : Recording) (octets : List ℕ) (why : RtpRefusal) → is_null octets ≡ false → rtp_of octets ≡ Err why → Meets r octets false true false false 0
no_rtp_met r octets why n e = record {
  null_is = n;
  rtp_is = rw n rw e refl;
  other_type_is = rw n rw e refl;
  payload_is = rw n rw e refl;
  packets_are = none_among r octets (rw e refl);
}

pub other_type_met : (r : Recording) (octets : List ℕ) (rtp : RtpPacket) → is_null octets ≡ false → rtp_of octets ≡ Ok rtp → is_asked r.asked rtp.payload_type ≡ false → Meets r octets false false true false 0
other_type_met r octets rtp n e a = record {
  null_is = n;
  rtp_is = rw n rw e refl;
  other_type_is = rw n rw e rw a refl;
  payload_is = rw n rw e rw a refl;
  packets_are = none_among r octets (rw e rw a refl);
}

pub no_payload_met : (r : Recording) (octets : List ℕ) (rtp : RtpPacket) (why : PayloadRefusal) → is_null octets ≡ false → rtp_of octets ≡ Ok rtp → is_asked r.asked rtp.payload_type ≡ true → refusal_in r.profile rtp.payload ≡ Some why → Meets r octets false false false true 0
no_payload_met r octets rtp why n e a p = record {
  null_is = n;
  rtp_is = rw n rw e refl;
  other_type_is = rw n rw e rw a refl;
  payload_is = rw n rw e rw a rw p refl;
  packets_are = none_among r octets (rw e rw a rw p refl);
}

abbrev pub said_by : RtpPacket → Value → Packet
said_by rtp v = record { ssrc = rtp.ssrc; sequence = rtp.sequence; timestamp = rtp.timestamp; value = v }

pub packet_is : (r : Recording) (octets : List ℕ) (rtp : RtpPacket) (v : Value) → rtp_of octets ≡ Ok rtp → is_asked r.asked rtp.payload_type ≡ true → taken_as r.profile rtp.payload ≡ Ok v → packet_of r.profile r.asked octets ≡ Some (said_by rtp v)
packet_is r octets rtp v e a read = rw e rw a rw read refl

pub packet_met : (r : Recording) (octets : List ℕ) (rtp : RtpPacket) (v : Value) → is_null octets ≡ false → rtp_of octets ≡ Ok rtp → is_asked r.asked rtp.payload_type ≡ true → refusal_in r.profile rtp.payload ≡ None → taken_as r.profile rtp.payload ≡ Ok v → Meets r octets false false false false 1
packet_met r octets rtp v n e a p read = record {
  null_is = n;
  rtp_is = rw n rw e refl;
  other_type_is = rw n rw e rw a refl;
  payload_is = rw n rw e rw a rw p refl;
  packets_are = one_among r octets (said_by rtp v) (packet_is r octets rtp v e a read);
}

-- a packet is told as one, accepted or not
pub told_packet : (r : Recording) (octets : List ℕ) (heard : Heard) → IsOfSession heard → Meets r octets false false false false 1 → IsTold r octets heard
told_packet r octets Null is m = absurd is
told_packet r octets NoRtp is m = absurd is
told_packet r octets OtherType is m = absurd is
told_packet r octets NoPayload is m = absurd is
told_packet r octets NoPlace is m = m
told_packet r octets Accepted is m = m
