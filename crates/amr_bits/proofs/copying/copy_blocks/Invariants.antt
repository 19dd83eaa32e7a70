use Rattle.std.proofs.Common.{◌≡◌, ℕ, ◌+◌, ◌*◌, ◌<◌, ◌-◌, get_or}
use Rattle.amr_bits.specs.Bits.{number_at}
use Rattle.amr_bits.proofs.copying.copy_blocks.Given as goal

abbrev pub invariant-loop-at : goal.invariant-loop-at
invariant-loop-at l = record {
  copied : (k : ℕ) → k < l.at → get_or l.out k 0 ≡ number_at l.octets (8 * k + l.shift) 8;
}

abbrev pub decreases-loop-at : goal.decreases-loop-at
decreases-loop-at l = l.last - l.at
