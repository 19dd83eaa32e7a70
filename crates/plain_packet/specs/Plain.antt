-- Plain packets, by places in their octets: a header with nothing but its fixed fields (RFC 3550,
-- 5.1), and one bandwidth-efficient frame with bits (RFC 4867, 4.3).
use Rattle.std.specs.Prelude.{◌≡◌, ℕ, ◌+◌, ◌*◌, ◌<◌, Bool, false, true, List, [], ◌∷◌, length, drop, slice_index, Ok, Option, Some}
use Rattle.amr_bits.specs.Bits.{bit_at, bits_at, number_at, octets_for}
use Rattle.amr_frame.specs.Frames.{Frame}
use Rattle.amr_frame.specs.Tables.{bits_in}
use Rattle.amr_frame.specs.Profiles.{IsValid}
use Rattle.amr_frame.specs.declared.codec.Codec.{Codec}
use Rattle.amr_frame.specs.declared.profile.Profile.{Profile}
use Rattle.spec_packet.specs.RtpReading.{packet_at, rtp_of}
use Rattle.spec_payload.specs.Strict.{taken_as}
use Rattle.spec_session.specs.Packets.{Packet, is_asked, packet_of}

-- the payload, behind a header of twelve octets
abbrev pub payload_in : List ℕ → List ℕ
payload_in octets = drop 12 octets

-- the type and the quality bit of its one entry
abbrev pub type_in : List ℕ → ℕ
type_in octets = number_at (payload_in octets) 5 4

abbrev pub quality_in : List ℕ → Bool
quality_in octets = bit_at (payload_in octets) 9

-- the frame behind the entry
abbrev pub frame_in : Codec → List ℕ → Frame
frame_in codec octets = record {
  ft = type_in octets;
  q = quality_in octets;
  bits = bits_at (payload_in octets) 10 (bits_in codec (type_in octets));
}

-- octet k of the frame's bits in a payload
abbrev pub octet_in : List ℕ → ℕ → ℕ
octet_in payload k = number_at payload (8 * k + 10) 8

-- octets are a plain packet: version 2 with no padding, extension and sources, F = 0, and as many
-- octets as a frame of the type needs, which has bits
pub record IsPlain (codec : Codec) (octets : List ℕ) : Type 0 where
  pub first : slice_index octets 0 ≡ 128
  pub last : bit_at (payload_in octets) 4 ≡ false
  pub bits : 0 < bits_in codec (type_in octets)
  pub size : length octets ≡ 12 + octets_for (10 + bits_in codec (type_in octets))

-- what a session hears of it
abbrev pub packet_in : Codec → List ℕ → Packet
packet_in codec octets = record {
  ssrc = number_at octets 64 32;
  sequence = number_at octets 16 16;
  timestamp = number_at octets 32 32;
  value = record {
    cmr = number_at (payload_in octets) 0 4;
    stride = 1;
    index = 0;
    frames = frame_in codec octets ∷ [];
  };
}

-- a format whose payloads can be such: bandwidth-efficient, of one channel, and not strict
pub record CarriesPlain (p : Profile) : Type 0 where
  pub valid : IsValid p
  pub packed : p.octet_aligned ≡ false
  pub lenient : p.strict ≡ false
  pub single : p.channels ≡ 1

-- what a plain packet is read as in a format, and that a session hears it where its type is asked
-- for
pub record IsHeard (p : Profile) (octets : List ℕ) : Type 0 where
  pub header : rtp_of octets ≡ Ok (packet_at octets)
  pub payload : taken_as p (packet_at octets).payload ≡ Ok (packet_in p.codec octets).value
  pub heard : (asked : Option ℕ) → is_asked asked (packet_at octets).payload_type ≡ true
      → packet_of p asked octets ≡ Some (packet_in p.codec octets)
