-- The octets of blocks, cell by cell.
use Rattle.std.proofs.Common.{◌≡◌, ℕ, ◌+◌, List, [], ◌∷◌, ◌++◌, take, drop, sym, ap, ◌∙◌}
use Rattle.std.proofs.lemmas.Grind.{flat_map-append, take_at_read}
use Rattle.std.proofs.lemmas.List.{append-nil, map-append, take-append-drop}
use Rattle.std.specs.Prelude.{◌≤◌, ◌<◌, get_or, length}
use Rattle.std.specs.List.{AllByRecursion}
use Rattle.amr_frame.specs.Frames.{IsFrame}
use Rattle.amr_frame.specs.declared.codec.Codec.{Codec}
use Rattle.amr_frame.specs.Blocks.{frames_of}
use Rattle.amr_frame.specs.Cells.{frame_of}
use Rattle.amr_frame.specs.declared.cell.Cell.{Cell}
use Rattle.spec_store.specs.StorageFile.{block_text, frame_text}

pub cells_both : (xs ys : List Cell) → block_text (frames_of (xs ++ ys)) ≡ block_text (frames_of xs) ++ block_text (frames_of ys)
cells_both xs ys = ap block_text (map-append frame_of xs ys) ∙ flat_map-append frame_text (frames_of xs) (frames_of ys)

pub cells_more : (xs : List Cell) (x : Cell) → block_text (frames_of (xs ++ x ∷ [])) ≡ block_text (frames_of xs) ++ frame_text (frame_of x)
cells_more xs x = cells_both xs (x ∷ []) ∙ ap (λ t. block_text (frames_of xs) ++ t) (append-nil (frame_text (frame_of x)))

-- the text of the cells before one, and the text of that one
pub cells_next : (cells : List Cell) (i : ℕ) (x : Cell) (text : List ℕ) → i < length cells → x ≡ get_or cells i x
    → text ≡ frame_text (frame_of x) → block_text (frames_of (take i cells)) ++ text ≡ block_text (frames_of (take (i + 1) cells))
cells_next cells i x text within here is =
    let more : take (i + 1) cells ≡ take i cells ++ x ∷ [] = (take_at_read cells i x within).1 ∙ ap (λ y. take i cells ++ y ∷ []) (sym here) in
    ap (λ t. block_text (frames_of (take i cells)) ++ t) is ∙ sym (cells_more (take i cells) x) ∙ ap (λ l. block_text (frames_of l)) (sym more)

-- the text of the cells up to one and of those behind it
pub cells_split : (cells : List Cell) (i : ℕ) (text : List ℕ) → text ≡ block_text (frames_of (take i cells))
    → text ++ block_text (frames_of (drop i cells)) ≡ block_text (frames_of cells)
cells_split cells i text is = ap (λ t. t ++ block_text (frames_of (drop i cells))) is ∙ sym (cells_both (take i cells) (drop i cells)) ∙ ap (λ l. block_text (frames_of l)) (take-append-drop i cells)

-- the types of frames fit four bits
pub types_fit : (codec : Codec) (cells : List Cell) → AllByRecursion (IsFrame codec) (frames_of cells) → AllByRecursion (λ (cell : Cell). cell.ft ≤ 15) cells
types_fit codec [] h = tt
types_fit codec (cell ∷ cells) h = (h.0.type, types_fit codec cells h.1)
