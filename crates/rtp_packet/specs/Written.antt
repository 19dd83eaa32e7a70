-- RTP packets as they are written (RFC 3550, 5.1 and 5.3.1), by whole octets. That the padding
-- octets but the last are 0 is ours.
use Rattle.std.specs.Prelude.{◌≡◌, ℕ, ◌+◌, ◌-◌, ◌*◌, ◌/◌, ◌%◌, ◌^◌, ◌≤◌, ◌<◌, cond, nat_eq, List, [], ◌∷◌, ◌++◌, length, replicate, flat_map, Option, Some, None, is_some, option_map, IfSome}
use Rattle.std.specs.Borrow.{Bor}
use Rattle.spec_packet.specs.Rtp.{Extension, RtpPacket}
use Rattle.rtp_packet.specs.View.{extension_of}
use Rattle.rtp_packet.specs.declared.fields.RtpFields.{RtpFields}

-- 16 bits, and 32 bits, the most significant octet first
abbrev pub octets_16 : ℕ → List ℕ
octets_16 n = (n / 256 % 256) ∷ (n % 256) ∷ []

abbrev pub octets_32 : ℕ → List ℕ
octets_32 n = (n / 16777216 % 256) ∷ (n / 65536 % 256) ∷ (n / 256 % 256) ∷ (n % 256) ∷ []

-- V 2, P where there is padding, X where there is an extension, and CC
abbrev pub first_octet : RtpPacket → ℕ
first_octet p =
    128 + cond (nat_eq p.padding 0) 0 32 + cond (is_some p.extension) 16 0 + length p.sources

-- M and PT
abbrev pub second_octet : RtpPacket → ℕ
second_octet p = cond p.marker 128 0 + p.payload_type

-- the 12 octets of the fixed header
abbrev pub fixed_octets : RtpPacket → List ℕ
fixed_octets p = first_octet p ∷ second_octet p
    ∷ (octets_16 p.sequence ++ octets_32 p.timestamp ++ octets_32 p.ssrc)

-- the 16 bits of an extension, the number of its words, and the words
abbrev pub extension_octets : Option Extension → List ℕ
extension_octets None = []
extension_octets (Some e) = octets_16 e.profile_bits ++ octets_16 (length e.octets / 4) ++ e.octets

-- padding: zeros, and then the number of all padding octets
abbrev pub padding_octets : ℕ → List ℕ
padding_octets n = cond (nat_eq n 0) [] (replicate (n - 1) 0 ++ n ∷ [])

-- a packet as it is written
abbrev pub written : RtpPacket → List ℕ
written p =
    fixed_octets p ++ flat_map octets_32 p.sources ++ extension_octets p.extension
    ++ p.payload ++ padding_octets p.padding

-- the packet of fields and a payload
abbrev pub packet_of : RtpFields → List ℕ → RtpPacket
packet_of fields payload = record {
  marker = fields.marker;
  payload_type = fields.payload_type;
  sequence = fields.sequence;
  timestamp = fields.timestamp;
  ssrc = fields.ssrc;
  sources = fields.sources.now;
  extension = option_map (λ e. extension_of e.0 e.1.now) fields.extension;
  padding = fields.padding;
  payload = payload;
}

-- octets are whole words, of which 16 bits can tell the number
abbrev pub IsWords : List ℕ → Type 0
IsWords octets = (length octets % 4 ≡ 0) × (length octets / 4 < 2 ^ 16)

-- contributing sources and an extension whose numbers fit their places
pub record AreCountable (fields : RtpFields) : Type 0 where
  pub sources : length fields.sources.now ≤ 15
  pub extension : IfSome fields.extension (λ e. IsWords e.1.now)

-- fields that fit the places of a header
pub record AreWritable (fields : RtpFields) : Type 0 where
  pub payload_type : fields.payload_type ≤ 127
  pub counts : AreCountable fields

-- how many octets an extension takes, its head included
abbrev pub extension_size : Option (ℕ × Bor (List ℕ)) → ℕ
extension_size None = 0
extension_size (Some e) = 4 + length e.1.now

-- how many octets a packet has with these fields and a payload of n octets
abbrev pub packet_size : RtpFields → ℕ → ℕ
packet_size fields n =
    12 + 4 * length fields.sources.now + extension_size fields.extension + n + fields.padding
