use Rattle.std.proofs.Common.{◌≡◌, ◌*◌}
use Rattle.amr_bits.specs.Bits.{number_at}
use Rattle.amr_bits.proofs.copying.number_from.Given as goal

abbrev pub invariant-loop-at : goal.invariant-loop-at
invariant-loop-at l = l.value ≡ number_at l.octets 0 (8 * l.at)
