use Rattle.std.proofs.Common.{◌≡◌, ℕ, ◌+◌, ◌*◌, ◌<◌, length, get_or}
use Rattle.amr_bits.specs.Bits.{number_at}
use Rattle.amr_bits.proofs.copying.block_at.Given as goal

abbrev pub invariant-loop-step : goal.invariant-loop-step
invariant-loop-step l = record {
  size : length l.made ≡ 16;
  copied : (k : ℕ) → k < l.step → get_or l.made k 0 ≡ number_at l.octets (8 * (l.at + k) + l.shift) 8;
}
