use Rattle.std.proofs.Common.{◌≡◌, ◌≤◌, ◌<◌, ℕ, true, get_or, length}
use Rattle.spec_media.specs.Pieces.{is_white}
use Rattle.media_params.proofs.pieces.trim_end.Given as goal

abbrev pub invariant-loop-end : goal.invariant-loop-end
invariant-loop-end l = (k : ℕ) → l.end ≤ k → k < length l.text → is_white (get_or l.text k 0) ≡ true
