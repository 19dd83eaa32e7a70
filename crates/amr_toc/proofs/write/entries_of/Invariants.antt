use Rattle.std.proofs.Common.{◌≡◌, take}
use Rattle.amr_frame.specs.Blocks.{frames_of}
use Rattle.amr_toc.specs.Entries.{headings}
use Rattle.amr_toc.proofs.write.entries_of.Given as goal

abbrev pub invariant-loop-cell : goal.invariant-loop-cell
invariant-loop-cell l = l.entries.items ≡ headings (frames_of (take l.cell-index l.cells))
