-- What a call that makes frames and blocks of a trial does. This project's own.
use Rattle.std.specs.Prelude.{◌≡◌, ℕ, IsTrue, List, [], ◌∷◌}
use Rattle.amr_frame.specs.Blocks.{IsPresentBlock, frames_of}
use Rattle.amr_frame.specs.Cells.{frame_of}
use Rattle.amr_frame.specs.Frames.{IsFrame}
use Rattle.amr_frame.specs.declared.cell.Cell.{Cell}
use Rattle.amr_frame.specs.declared.codec.Codec.{Codec}
use Rattle.spec_trial.specs.Blocks.{Made, made_from, none_made}
use Rattle.trial_engine.specs.declared.draws.Draws.{Draws}

-- the one frame that is made is in the cell, and the generator stands behind it
pub record MakesFrame (codec : Codec) (made : Made) (cell : Cell) (draws : Draws) : Type 0 where
  pub frames : made.frames ≡ frame_of cell ∷ []
  pub state : made.state ≡ draws.state
  pub present : IsTrue cell.present
  pub of_codec : IsFrame codec (frame_of cell)

-- so many frames that are made are in the cells, one behind the other
pub record MakesBlock (codec : Codec) (draws : Draws) (n : ℕ) (cells : List Cell) (draws' : Draws)
    : Type 0 where
  pub frames : (made_from codec (none_made draws.state) n).frames ≡ frames_of cells
  pub state : (made_from codec (none_made draws.state) n).state ≡ draws'.state
  pub block : IsPresentBlock codec n cells
