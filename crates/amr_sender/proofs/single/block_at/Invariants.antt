use Rattle.std.proofs.Common.{◌≡◌, ℕ, ◌+◌, ◌*◌, ◌<◌, length, get_or}
use Rattle.amr_bits.specs.Bits.{number_at}
use Rattle.amr_sender.proofs.single.block_at.Given as goal

-- the octets so far are made
abbrev pub invariant-loop-step : goal.invariant-loop-step
invariant-loop-step l = record {
  size : length l.made ≡ 16;
  made : (k : ℕ) → k < l.step → get_or l.made k 0 ≡ number_at l.unit (8 * (l.at + k) + 6) 8;
}
