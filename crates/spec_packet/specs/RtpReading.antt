-- Which octets are no RTP packet and why, and what the others say: by places in the octets
-- (RFC 3550, 5.1 and 5.3.1). The order in which refusals are tested, H1 to H5, is this project's
-- own.
use Rattle.std.specs.Prelude.{ℕ, ◌+◌, ◌-◌, ◌*◌, ◌/◌, Bool, not, cond, ◌&&◌, ◌||◌, nat_lt, nat_eq, List, [], ◌∷◌, length, map, slice_index, Option, Some, None, Result, Ok, Err}
use Rattle.std.specs.List.{range_with_len}
use Rattle.amr_bits.specs.Bits.{bit_at, number_at, part}
use Rattle.amr_frame.specs.First.{when, first}
use Rattle.spec_packet.specs.Rtp.{Extension, RtpPacket}
use Rattle.spec_packet.specs.declared.refusal.RtpRefusal.{RtpRefusal}
use Rattle.spec_packet.specs.declared.refusal.RtpRefusal.TheVariants as why

-- the version, and whether there is an extension, or padding
abbrev pub version : List ℕ → ℕ
version octets = slice_index octets 0 / 64

abbrev pub is_extended : List ℕ → Bool
is_extended octets = bit_at octets 3

abbrev pub is_padded : List ℕ → Bool
is_padded octets = bit_at octets 2

-- where the contributing sources end, and where the header with its extension does
abbrev pub sources_end : List ℕ → ℕ
sources_end octets = 12 + 4 * number_at octets 4 4

abbrev pub header_end : List ℕ → ℕ
header_end octets = cond (is_extended octets)
    (sources_end octets + 4 + 4 * number_at octets (8 * sources_end octets + 16) 16)
    (sources_end octets)

-- the number of padding octets: the last octet, where there is padding
abbrev pub padding_in : List ℕ → ℕ
padding_in octets = cond (is_padded octets) (slice_index octets (length octets - 1)) 0

-- the extension doesn't fit, or the padding has no octet or doesn't fit behind the header
abbrev pub breaks_extension : List ℕ → Bool
breaks_extension octets = is_extended octets
    && (nat_lt (length octets) (sources_end octets + 4)
    || nat_lt (length octets) (header_end octets))

abbrev pub breaks_padding : List ℕ → Bool
breaks_padding octets = is_padded octets
    && (nat_eq (padding_in octets) 0
    || nat_lt (length octets) (header_end octets + padding_in octets))

-- the first rule that octets break: H1 to H5
abbrev pub rtp_refusal : List ℕ → Option RtpRefusal
rtp_refusal octets = first (
    when (nat_lt (length octets) 12) (why.Short (length octets))
    ∷ when (not (nat_eq (version octets) 2)) (why.Version (version octets))
    ∷ when (nat_lt (length octets) (sources_end octets)) why.Sources
    ∷ when (breaks_extension octets) why.Extension
    ∷ when (breaks_padding octets) why.Padding ∷ [])

-- the extension, where there is one
abbrev pub extension_in : List ℕ → Option Extension
extension_in octets = cond (is_extended octets) (Some (record {
  profile_bits = number_at octets (8 * sources_end octets) 16;
  octets = part (sources_end octets + 4) (header_end octets - (sources_end octets + 4)) octets;
})) None

-- what the packet says
abbrev pub packet_at : List ℕ → RtpPacket
packet_at octets = record {
  marker = bit_at octets 8;
  payload_type = number_at octets 9 7;
  sequence = number_at octets 16 16;
  timestamp = number_at octets 32 32;
  ssrc = number_at octets 64 32;
  sources = map (λ k. number_at octets (96 + 32 * k) 32) (range_with_len 0 (number_at octets 4 4));
  extension = extension_in octets;
  padding = padding_in octets;
  payload = part (header_end octets) (length octets - padding_in octets - header_end octets) octets;
}

abbrev answered : Option RtpRefusal → RtpPacket → Result RtpPacket RtpRefusal
answered None p = Ok p
answered (Some r) p = Err r

-- what octets say as an RTP packet, or why they are refused
abbrev pub rtp_of : List ℕ → Result RtpPacket RtpRefusal
rtp_of octets = answered (rtp_refusal octets) (packet_at octets)
