use Rattle.std.proofs.Common.{◌≡◌, ◌<◌, ◌≤◌, ℕ, length, get_or}
use Rattle.amr_toc.specs.declared.entry.Entry.{Entry}
use Rattle.amr_toc.proofs.tests.written.Given as goal

abbrev pub invariant-loop-k : goal.invariant-loop-k
invariant-loop-k l = (length l.entries ≡ 4) × ((j : ℕ) (other : Entry) → j < 4 → (get_or l.entries j other).ft ≤ 15)
