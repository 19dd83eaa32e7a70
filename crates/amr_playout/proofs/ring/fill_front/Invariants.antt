use Rattle.std.proofs.Common.{◌≡◌, IsTrue, length, drop, take}
use Rattle.std.specs.List.{AllByRecursion}
use Rattle.amr_frame.specs.Blocks.{frames_of}
use Rattle.amr_frame.specs.Cells.{IsCell}
use Rattle.amr_frame.specs.declared.cell.Cell.{Cell}
use Rattle.amr_playout.proofs.ring.fill_front.Given as goal

abbrev pub invariant-loop-index : goal.invariant-loop-index
invariant-loop-index l = record {
  frames : frames_of l.ring.items ≡ frames_of l.initial.ring.items;
  present : AllByRecursion (λ (cell : Cell). IsTrue cell.present) (take l.index l.ring.items);
  rest : drop l.index l.ring.items ≡ drop l.index l.initial.ring.items;
  valid : AllByRecursion (IsCell l.codec) l.ring.items;
  full : length l.ring.items ≡ length l.initial.ring.items;
  capacity : l.ring.capacity ≡ l.initial.ring.capacity;
}
