use Rattle.std.proofs.Common.{◌≡◌, ◌<◌, ℕ, false}
use Rattle.amr_bits.specs.Runs.{run}
use Rattle.amr_toc.specs.Table.{ends_at}
use Rattle.amr_toc.proofs.read.count_entries.Given as goal

abbrev pub invariant-loop-at : goal.invariant-loop-at
invariant-loop-at l = (j : ℕ) → j < l.at → ends_at l.profile l.width (run l.bits) j ≡ false
