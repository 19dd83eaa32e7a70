-- Octets that are written one piece behind the other.
use Rattle.std.proofs.Common.{◌≡◌, ℕ, ◌+◌, ◌-◌, ◌<◌, ◌≤◌, List, [], ◌∷◌, ◌++◌, length, take, drop, get_or, sym, refl, ap, subst, ◌∙◌, arith, zero, suc}
use Rattle.std.specs.Prelude.{flat_map}
use Rattle.std.specs.List.{AllByRecursion, range_with_len}
use Rattle.std.proofs.lemmas.List.{append-nil, append_assoc, at_drop_more, length-append}
use Rattle.amr_frame.specs.Blocks.{frames_of}
use Rattle.amr_frame.specs.Cells.{frame_of}
use Rattle.amr_frame.specs.declared.cell.Cell.{Cell}
use Rattle.amr_frame.specs.declared.codec.Codec.{Codec}
use Rattle.amr_frame.specs.Frames.{Frame, IsFrame}

-- of the octets `all` that are written from `start` on into `old`, those up to `at` stand in `now`, and `rest` is still to be written
pub record Wrote (old : List ℕ) (start : ℕ) (all now : List ℕ) (at : ℕ) (rest : List ℕ) : Type 0 where
  pub octets : take at now ++ rest ≡ take start old ++ all
  pub size : length now ≡ length old
  pub place : at + length rest ≡ start + length all

-- before the first piece
pub wrote_first : (old : List ℕ) (start : ℕ) (all : List ℕ) → Wrote old start all old start all
wrote_first old start all = record { octets = refl; size = refl; place = refl }

-- a piece more
pub wrote_step : (old : List ℕ) (start : ℕ) (all now : List ℕ) (at : ℕ) (piece rest from new : List ℕ) (end : ℕ) → from ≡ piece ++ rest → Wrote old start all now at from
    → length new ≡ length now → end ≡ at + length piece → take end new ≡ take at now ++ piece → Wrote old start all new end rest
wrote_step old start all now at piece rest from new end f b l e t = record {
  octets = ap (λ (xs : List ℕ). xs ++ rest) t ∙ append_assoc (take at now) piece rest ∙ ap (λ (xs : List ℕ). take at now ++ xs) (sym f) ∙ b.octets;
  size = l ∙ b.size;
  place = let s = ap length f ∙ length-append piece rest in let p = b.place in omega arith;
}

-- there is room for a piece
pub room : (old : List ℕ) (start : ℕ) (all now : List ℕ) (at : ℕ) (piece rest from : List ℕ) → from ≡ piece ++ rest → Wrote old start all now at from → start + length all ≤ length old → at + length piece ≤ length now
room old start all now at piece rest from f b h =
    let s = ap length f ∙ length-append piece rest in
    let p = b.place in
    let l = b.size in
    omega arith

-- after the last piece
pub wrote_all : (old : List ℕ) (start : ℕ) (all now : List ℕ) (at : ℕ) (rest : List ℕ) → Wrote old start all now at rest → rest ≡ [] → take at now ≡ take start old ++ all
wrote_all old start all now at rest b e = sym (append-nil (take at now)) ∙ ap (λ (xs : List ℕ). take at now ++ xs) (sym e) ∙ b.octets

pub wrote_end : (old : List ℕ) (start : ℕ) (all now : List ℕ) (at : ℕ) (rest : List ℕ) → Wrote old start all now at rest → rest ≡ [] → at ≡ start + length all
wrote_end old start all now at rest b e = let l = ap length e in let p = b.place in omega arith

-- the pieces of the cells from one on
pub pieces_from : (F : Frame → List ℕ) (cells : List Cell) (k : ℕ) (cell : Cell) → cell ≡ get_or cells k cell → k < length cells → flat_map F (frames_of (drop k cells)) ≡ F (frame_of cell) ++ flat_map F (frames_of (drop (k + 1) cells))
pieces_from F cells k cell is h =
    at_drop_more (λ (xs : List Cell). flat_map F (frames_of xs)) cells k cell h
    ∙ ap (λ (x : Cell). F (frame_of x) ++ flat_map F (frames_of (drop (k + 1) cells))) (sym is)

-- the frame of a cell
frame_in : (codec : Codec) (cells : List Cell) (k : ℕ) (d : Cell) → AllByRecursion (IsFrame codec) (frames_of cells) → k < length cells → IsFrame codec (frame_of (get_or cells k d))
frame_in codec [] k d a h = absurd (omega arith)
frame_in codec (x ∷ cells) zero d a h = a.0
frame_in codec (x ∷ cells) (suc k) d a h = frame_in codec cells k d a.1 (omega arith)

pub frame_at : (codec : Codec) (cells : List Cell) (k : ℕ) (cell : Cell) → AllByRecursion (IsFrame codec) (frames_of cells) → cell ≡ get_or cells k cell → k < length cells → IsFrame codec (frame_of cell)
frame_at codec cells k cell a is h = subst (λ (c : Cell). IsFrame codec (frame_of c)) (sym is) (frame_in codec cells k cell a h)

-- the numbers of a range from one on
pub range_from : (k n : ℕ) → k < n → range_with_len k (n - k) ≡ k ∷ range_with_len (k + 1) (n - (k + 1))
range_from k n h = let e : n - k ≡ suc (n - (k + 1)) = omega arith in ap (range_with_len k) e
