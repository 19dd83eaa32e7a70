use Rattle.std.proofs.Common.{◌≡◌, ◌≤◌, ◌*◌, length}
use Rattle.media_params.proofs.Joined.{modes_to}
use Rattle.media_params.proofs.printing.gather_modes.Given as goal

abbrev pub invariant-loop-mode : goal.invariant-loop-mode
invariant-loop-mode l = (l.text.bytes ≡ modes_to l.set l.mode) × (length l.text.bytes ≤ 4 * l.mode)
