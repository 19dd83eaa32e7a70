use Rattle.std.proofs.Common.{◌≡◌, ℕ, ◌+◌, ◌<◌, cond, length, ltb, get_or}
use Rattle.plain_packet.specs.Plain.{octet_in}
use Rattle.plain_packet.proofs.load.block_at.Given as goal

-- the octets so far are made
abbrev pub invariant-loop-step : goal.invariant-loop-step
invariant-loop-step l = record {
  size : length l.made ≡ 16;
  made : (k : ℕ) → k < l.step → get_or l.made k 0 ≡ cond (ltb (l.at + k) l.full) (octet_in l.payload (l.at + k)) 0;
}
