-- Packets whose fields fit their places (RFC 3550, 5.1 and 5.3.1), and octets whose padding is
-- zeros. That the padding octets but the last are 0 is ours.
use Rattle.std.specs.Prelude.{◌≡◌, ℕ, ◌+◌, ◌-◌, ◌/◌, ◌%◌, ◌^◌, ◌≤◌, ◌<◌, List, length, slice_index, IfSome}
use Rattle.std.specs.List.{AllByRecursion}
use Rattle.amr_bits.specs.Bits.{AreOctets}
use Rattle.spec_packet.specs.Rtp.{Extension, RtpPacket}
use Rattle.spec_packet.specs.RtpReading.{padding_in}

-- an extension has 16 bits and whole words, of which 16 bits can tell the number
abbrev pub FitsExtension : Extension → Type 0
FitsExtension e = (e.profile_bits < 2 ^ 16) × (length e.octets % 4 ≡ 0)
    × (length e.octets / 4 < 2 ^ 16) × AreOctets e.octets

-- each field fits its place
pub record AreFields (p : RtpPacket) : Type 0 where
  pub type : p.payload_type < 128
  pub numbers : (p.sequence < 2 ^ 16) × (p.timestamp < 2 ^ 32) × (p.ssrc < 2 ^ 32)
      × (p.padding < 256)
  pub sources : (length p.sources < 16) × AllByRecursion (λ s. s < 2 ^ 32) p.sources
  pub extension : IfSome p.extension FitsExtension
  pub payload : AreOctets p.payload

-- the padding octets but the last are 0
abbrev pub IsPaddedByZeros : List ℕ → Type 0
IsPaddedByZeros octets = (k : ℕ) → length octets - padding_in octets ≤ k → k + 1 < length octets
    → slice_index octets k ≡ 0
