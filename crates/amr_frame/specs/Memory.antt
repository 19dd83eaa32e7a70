-- What a sink of blocks over memory stands for. It is ours, for tests and trials.
use Rattle.std.specs.Prelude.{ℕ, Bool, List}
use Rattle.amr_frame.specs.declared.cell.Cell.{Cell}
use Rattle.amr_frame.specs.declared.codec.Codec.{Codec}

-- what its blocks are of, for how many it has room, the cells got, its faults, and whether it is
-- ready
pub record Shelf : Type 0 where
  pub codec : Codec
  pub channels : ℕ
  pub room : ℕ
  pub cells : List Cell
  pub faults : ℕ
  pub ready : Bool
