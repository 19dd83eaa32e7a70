-- What a sink of blocks got, where a list of blocks has grown. This project's own.
use Rattle.std.specs.Prelude.{◌≡◌, List, ◌++◌}
use Rattle.amr_frame.specs.Blocks.{GotBlocks, GotPrefix}

-- the sink got the blocks that the second list has more
pub record Gains {S B : Type 0} (whole : S → B → S → Type 0) (old new : S) (less more : List B)
    : Type 0 where
  pub blocks : List B
  pub got : GotBlocks whole old blocks new
  pub more_by : more ≡ less ++ blocks

-- the sink got a prefix of the blocks that the second list has more
pub record GainsPart {S B : Type 0} (whole part : S → B → S → Type 0) (old new : S)
    (less more : List B) : Type 0 where
  pub blocks : List B
  pub got : GotPrefix whole part old blocks new
  pub more_by : more ≡ less ++ blocks
