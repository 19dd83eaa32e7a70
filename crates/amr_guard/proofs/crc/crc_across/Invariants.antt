use Rattle.std.proofs.Common.{◌≡◌, ◌*◌}
use Rattle.amr_bits.specs.Bits.{number, bits_at}
use Rattle.spec_payload.specs.FrameCrc.{crc_of}
use Rattle.amr_guard.proofs.crc.crc_across.Given as goal

abbrev pub invariant-loop-at : goal.invariant-loop-at
invariant-loop-at l = l.crc ≡ number (crc_of (bits_at l.bits.octets.now l.bits.start (8 * l.at)))
