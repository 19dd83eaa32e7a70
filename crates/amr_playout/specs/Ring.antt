-- Rings of cells: one cell for each place of the window and each channel. This project's own.
use Rattle.std.specs.Prelude.{◌≡◌, ◌*◌, IsTrue, List, length}
use Rattle.std.specs.List.{AllByRecursion}
use Rattle.amr_frame.specs.Cells.{IsCell}
use Rattle.amr_frame.specs.declared.cell.Cell.{Cell}
use Rattle.amr_frame.specs.declared.codec.Codec.{Codec}
use Rattle.amr_playout.specs.declared.plan.Plan.{Plan}
use Rattle.amr_playout.specs.Plans.{IsPlan}
use Rattle.circular_buffer.specs.Buffer.{Buffer}

-- each of the cells holds a frame
abbrev pub ArePresent : List Cell → Type 0
ArePresent cells = AllByRecursion (λ (cell : Cell). IsTrue cell.present) cells

-- a cell of the codec that holds a frame
pub record IsPresentCell (codec : Codec) (cell : Cell) : Type 0 where
  pub valid : IsCell codec cell
  pub present : IsTrue cell.present

-- the ring has all cells that it has room for, each of the codec
pub record IsFull (codec : Codec) (ring : Buffer Cell) : Type 0 where
  pub full : length ring.items ≡ ring.capacity
  pub valid : AllByRecursion (IsCell codec) ring.items

-- a step left the ring as many cells, each of the codec, and as much room
pub record KeepsRing (codec : Codec) (old new : Buffer Cell) : Type 0 where
  pub valid : AllByRecursion (IsCell codec) new.items
  pub size : length new.items ≡ length old.items
  pub capacity : new.capacity ≡ old.capacity

-- the ring of a valid plan: it has a cell for each place of the window and each channel, and no
-- room for more, and its cells are of the plan's codec
pub record IsRing (plan : Plan) (ring : Buffer Cell) : Type 0 where
  pub planned : IsPlan plan
  pub full : length ring.items ≡ plan.window * plan.profile.channels
  pub capacity : ring.capacity ≡ plan.window * plan.profile.channels
  pub valid : AllByRecursion (IsCell plan.profile.codec) ring.items
