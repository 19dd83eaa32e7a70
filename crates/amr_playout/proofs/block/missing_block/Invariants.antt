use Rattle.std.proofs.Common.{◌≡◌, IsTrue, length, replicate}
use Rattle.std.specs.List.{AllByRecursion}
use Rattle.amr_frame.specs.Blocks.{frames_of}
use Rattle.amr_frame.specs.declared.cell.Cell.{Cell}
use Rattle.amr_frame.specs.Frames.{no_data}
use Rattle.amr_playout.proofs.block.missing_block.Given as goal

abbrev pub invariant-loop : goal.invariant-loop
invariant-loop l = record {
  size : length l.block.items ≡ l.counter;
  frames : frames_of l.block.items ≡ replicate l.counter no_data;
  present : AllByRecursion (λ (cell : Cell). IsTrue cell.present) l.block.items;
}
