-- A plain packet is heard.
use Rattle.std.proofs.Common.{◌≡◌, ℕ, true, List, refl, ap, ◌∙◌, arith, Option, Some, Ok}
use Rattle.std.proofs.lemmas.List.{length-drop}
use Rattle.amr_frame.specs.declared.profile.Profile.{Profile}
use Rattle.plain_packet.specs.Plain.{CarriesPlain, IsHeard, IsPlain, packet_in, payload_in}
use Rattle.plain_packet.proofs.Headers.{header_read, payload_is}
use Rattle.plain_packet.proofs.Payloads.{taken_one}
use Rattle.spec_packet.specs.Rtp.{RtpPacket}
use Rattle.spec_packet.specs.RtpReading.{packet_at, rtp_of}
use Rattle.spec_payload.specs.Strict.{taken_as}
use Rattle.spec_payload.specs.Values.{Value}
use Rattle.spec_session.specs.Packets.{is_asked, packet_of}

-- a record is a packet of a session where its header, its type and its payload are right
said : (p : Profile) (asked : Option ℕ) (octets : List ℕ) (rtp : RtpPacket) (v : Value)
    → rtp_of octets ≡ Ok rtp → is_asked asked rtp.payload_type ≡ true → taken_as p rtp.payload ≡ Ok v
    → packet_of p asked octets
    ≡ Some (record { ssrc = rtp.ssrc; sequence = rtp.sequence; timestamp = rtp.timestamp; value = v })
said p asked octets rtp v e f g = rw e (rw f (rw g refl))

pub heard : (p : Profile) (octets : List ℕ) → CarriesPlain p → IsPlain p.codec octets → IsHeard p octets
heard p octets carries plain =
    let size = plain.size in
    let rest = length-drop 12 octets in
    let header = header_read p.codec octets plain in
    let payload = ap (taken_as p) (payload_is p.codec octets plain)
    ∙ taken_one p (payload_in octets) carries plain.last plain.bits (omega (arith, size, rest)) in
    record {
      header = header;
      payload = payload;
      heard = λ asked is. said p asked octets (packet_at octets) (packet_in p.codec octets).value header is payload;
    }
