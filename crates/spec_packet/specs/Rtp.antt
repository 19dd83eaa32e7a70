-- RTP packets (RFC 3550, 5.1, and 5.3.1 for the extension): a relation between the fields and the
-- octets.
use Rattle.std.specs.Prelude.{◌≡◌, ℕ, ◌-◌, ◌*◌, ◌/◌, ◌%◌, ◌^◌, ◌<◌, Bool, true, not, cond, nat_eq, List, [], ◌∷◌, ◌++◌, length, Option, Some, None, is_some, IfSome, flat_map}
use Rattle.std.specs.List.{AllByRecursion}
use Rattle.amr_bits.specs.Bits.{nat, bits_of}
use Rattle.amr_bits.specs.Layout.{Mark, fixed, free, fits}

-- a header extension: the 16 bits that its profile defines, and its octets, in whole words
pub record Extension : Type 0 where
  pub profile_bits : ℕ
  pub octets : List ℕ

-- the fields of a packet; padding is the number of padding octets, 0 where there is none
pub record RtpPacket : Type 0 where
  pub marker : Bool
  pub payload_type : ℕ
  pub sequence : ℕ
  pub timestamp : ℕ
  pub ssrc : ℕ
  pub sources : List ℕ
  pub extension : Option Extension
  pub padding : ℕ
  pub payload : List ℕ

-- the fixed header and the contributing sources: V 2, P, X, CC, M, PT, sequence, timestamp, SSRC,
-- CSRC
abbrev header_marks : RtpPacket → List Mark
header_marks p = fixed (
    nat 2 2
    ++ (not (nat_eq p.padding 0) ∷ is_some p.extension ∷ nat 4 (length p.sources)
    ++ (p.marker ∷ nat 7 p.payload_type ++ nat 16 p.sequence ++ nat 32 p.timestamp ++ nat 32 p.ssrc
    ++ flat_map (nat 32) p.sources)))

-- the extension: 16 bits, the number of its words, and the words
abbrev extension_marks : Option Extension → List Mark
extension_marks None = []
extension_marks (Some e) =
    fixed (nat 16 e.profile_bits ++ nat 16 (length e.octets / 4) ++ bits_of e.octets)

-- the padding: free octets, and then their number, itself counted
abbrev padding_marks : ℕ → List Mark
padding_marks n = cond (nat_eq n 0) [] (free (8 * (n - 1)) ++ fixed (nat 8 n))

-- the bits of a packet, each fixed or free
abbrev pub packet_layout : RtpPacket → List Mark
packet_layout p =
    header_marks p ++ extension_marks p.extension ++ fixed (bits_of p.payload)
    ++ padding_marks p.padding

-- octets are a packet with these fields
pub record IsPacket (p : RtpPacket) (octets : List ℕ) : Type 0 where
  pub type : p.payload_type < 128
  pub numbers : (p.sequence < 2 ^ 16) × (p.timestamp < 2 ^ 32) × (p.ssrc < 2 ^ 32)
      × (p.padding < 256)
  pub sources : (length p.sources < 16) × AllByRecursion (λ s. s < 2 ^ 32) p.sources
  pub extension : IfSome p.extension (λ e. (e.profile_bits < 2 ^ 16) × (length e.octets % 4 ≡ 0)
      × (length e.octets / 4 < 2 ^ 16) × AllByRecursion (λ o. o < 256) e.octets)
  pub payload : AllByRecursion (λ o. o < 256) p.payload
  pub bits : fits (packet_layout p) (bits_of octets) ≡ true
