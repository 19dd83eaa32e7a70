use Rattle.std.proofs.Common.{◌*◌, ◌≤◌, length, take}
use Rattle.amr_frame.specs.Blocks.{frames_of}
use Rattle.spec_store.specs.StorageFile.{block_text}
use Rattle.trial_engine.specs.Sums.{Adds}
use Rattle.trial_engine.proofs.file_sum.FileSum.add_cells.Given as goal

abbrev pub invariant-loop-cell : goal.invariant-loop-cell
invariant-loop-cell l = record {
  adds : Adds l.initial.self l.self (block_text (frames_of (take l.cell-index l.cells)));
  few : length (block_text (frames_of (take l.cell-index l.cells))) ≤ 61 * l.cell-index;
}
