use Rattle.std.proofs.Common.{◌≡◌, ◌≤◌, ◌+◌, ◌*◌, ◌++◌, codes, length}
use Rattle.std.specs.List.{join_by, range_with_len}
use Rattle.list_engine.specs.Payloads.{frame_said}
use Rattle.list_engine.proofs.frames.push_frames.Given as goal

-- the frames so far were added, with commas between them
abbrev pub invariant-loop-at : goal.invariant-loop-at
invariant-loop-at l = record {
  text : l.line ≡ l.fn.line ++ join_by (frame_said l.view) (codes ",") (range_with_len 0 l.at);
  most : length l.line ≤ length l.fn.line + 24 * l.at;
  some : 1 ≤ l.at;
}
