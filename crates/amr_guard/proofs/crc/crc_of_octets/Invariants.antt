use Rattle.std.proofs.Common.{◌≡◌, ◌*◌}
use Rattle.amr_bits.specs.Bits.{number, bits_at}
use Rattle.spec_payload.specs.FrameCrc.{crc_of}
use Rattle.amr_guard.proofs.crc.crc_of_octets.Given as goal

abbrev pub invariant-loop-octet : goal.invariant-loop-octet
invariant-loop-octet l = l.register ≡ number (crc_of (bits_at l.octets 0 (8 * l.octet-index)))
