-- What the sum of a storage file holds, and what is added to it. This project's own.
use Rattle.std.specs.Prelude.{◌≡◌, ℕ, ◌+◌, ◌*◌, ◌≤◌, ◌%◌, ◌^◌, List, length, sum}
use Rattle.amr_frame.specs.Blocks.{frames_of}
use Rattle.amr_frame.specs.Frames.{Frame}
use Rattle.amr_frame.specs.declared.cell.Cell.{Cell}
use Rattle.amr_frame.specs.declared.codec.Codec.{Codec}
use Rattle.spec_store.specs.StorageFile.{block_text, storage_file}
use Rattle.trial_engine.specs.declared.file_sum.FileSum.{FileSum}

-- it is for files of the same codec and channels
pub record SameFormat (f f' : FileSum) : Type 0 where
  pub codec : f'.codec ≡ f.codec
  pub channels : f'.channels ≡ f.channels

-- these octets were added
pub record Adds (f f' : FileSum) (text : List ℕ) : Type 0 where
  pub counts : f'.count ≡ (f.count + length text) % 2 ^ 64
  pub totals : f'.total ≡ (f.total + sum text) % 2 ^ 32
  pub format : SameFormat f f'

-- the octets of the frames of cells were added, at most 61 for each
pub record AddsCells (f f' : FileSum) (cells : List Cell) : Type 0 where
  pub adds : Adds f f' (block_text (frames_of cells))
  pub few : length (block_text (frames_of cells)) ≤ 61 * length cells

-- the octets of a block were added, at most 61 for each of 6 frames
pub record AddsBlock (f f' : FileSum) (block : List Frame) : Type 0 where
  pub adds : Adds f f' (block_text block)
  pub few : length (block_text block) ≤ 366

-- these octets were added up
pub record SumsUp (f : FileSum) (text : List ℕ) : Type 0 where
  pub counts : f.count ≡ length text % 2 ^ 64
  pub totals : f.total ≡ sum text % 2 ^ 32

-- those of the file of these blocks were, and they are no more than blocks may have
pub record SumsFile (f : FileSum) (codec : Codec) (channels : ℕ) (blocks : List (List Frame))
    : Type 0 where
  pub sums : SumsUp f (storage_file codec channels blocks)
  pub few : length (storage_file codec channels blocks) ≤ 19 + 366 * length blocks
