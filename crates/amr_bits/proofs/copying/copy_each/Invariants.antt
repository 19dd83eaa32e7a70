use Rattle.std.proofs.Common.{◌≡◌, ℕ, ◌+◌, ◌*◌, ◌<◌, get_or}
use Rattle.amr_bits.specs.Bits.{number_at}
use Rattle.amr_bits.proofs.copying.copy_each.Given as goal

abbrev pub invariant-loop-at : goal.invariant-loop-at
invariant-loop-at l = (k : ℕ) → k < l.at → get_or l.out k 0 ≡ number_at l.octets (8 * k + l.shift) 8
