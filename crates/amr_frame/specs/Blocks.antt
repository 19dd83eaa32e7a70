-- Blocks as cells, and what a sink of blocks got. A block is the frames of all channels of one
-- frame time (RFC 4867, 3.2).
use Rattle.std.specs.Prelude.{◌≡◌, ◌⊎◌, ℕ, IsTrue, List, [], ◌∷◌, ◌++◌, map}
use Rattle.std.specs.List.{AllByRecursion}
use Rattle.amr_frame.specs.declared.cell.Cell.{Cell}
use Rattle.amr_frame.specs.declared.codec.Codec.{Codec}
use Rattle.amr_frame.specs.Cells.{frame_of}
use Rattle.amr_frame.specs.Frames.{Frame, IsBlock}

-- the frames of cells, in order
abbrev pub frames_of : List Cell → List Frame
frames_of cells = map frame_of cells

-- cells that are all present, and whose frames are a block of the codec and the channels
pub record IsPresentBlock (codec : Codec) (channels : ℕ) (cells : List Cell) : Type 0 where
  pub present : AllByRecursion (λ (cell : Cell). IsTrue cell.present) cells
  pub block : IsBlock codec channels (frames_of cells)

-- the sink got these blocks: whole steps, one for each block in order, lead from before to after
abbrev pub GotBlocks : {S B : Type 0} → (S → B → S → Type 0) → S → List B → S → Type 0
GotBlocks whole before [] after = after ≡ before
GotBlocks {S} whole before (block ∷ blocks) after = (between : S) × whole before block between
    × GotBlocks whole between blocks after

-- nothing more came, or one part step over the first of these blocks
abbrev pub GotAtMostPart : {S B : Type 0} → (S → B → S → Type 0) → S → List B → S → Type 0
GotAtMostPart part before [] after = after ≡ before
GotAtMostPart part before (block ∷ _) after = (after ≡ before) ⊎ part before block after

-- the sink got a prefix of these blocks: whole steps, and then at most one part step over the next
pub record GotPrefix {S B : Type 0} (whole part : S → B → S → Type 0)
    (before : S) (blocks : List B) (after : S) : Type 0 where
  pub got : List B
  pub rest : List B
  pub between : S
  pub split : blocks ≡ got ++ rest
  pub steps : GotBlocks whole before got between
  pub end : GotAtMostPart part between rest after
