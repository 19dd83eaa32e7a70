-- Octets, frames and blocks that are made one behind another.
use Rattle.std.proofs.Common.{◌≡◌, ℕ, ◌+◌, List, [], ◌∷◌, ◌++◌, length, map, refl, sym, ap, ◌∙◌, subst, arith, add-one}
use Rattle.std.proofs.lemmas.List.{length-append, map-append}
use Rattle.std.proofs.lemmas.List.FromFn.{map-range_with_len_more}
use Rattle.std.proofs.lemmas.List.Sums.{fold-append}
use Rattle.std.specs.Prelude.{fold}
use Rattle.std.specs.List.{AllByRecursion, range_with_len}
use Rattle.amr_bits.proofs.Lists.{all_append}
use Rattle.amr_frame.specs.Blocks.{frames_of}
use Rattle.amr_frame.specs.Cells.{frame_of}
use Rattle.amr_frame.specs.Frames.{Frame, IsFrame}
use Rattle.amr_frame.specs.declared.cell.Cell.{Cell}
use Rattle.amr_frame.specs.declared.codec.Codec.{Codec}
use Rattle.spec_trial.specs.Blocks.{Made, frame_made, made_from, none_made, one_more}
use Rattle.spec_trial.specs.Draws.{after, next}
use Rattle.trial_engine.specs.Made.{MakesBlock, MakesFrame}
use Rattle.trial_engine.specs.declared.draws.Draws.{Draws}

-- a draw more
pub after-more : (x n : ℕ) → after x (n + 1) ≡ next (after x n)
after-more x n = ap (after x) (add-one n)

-- numbers in a row and one more
pub range_more : (a n j : ℕ) → a + n ≡ j → range_with_len a (n + 1) ≡ range_with_len a n ++ j ∷ []
range_more a n j e = sym (map_same (range_with_len a (n + 1))) ∙ map-range_with_len_more (λ k. k) a n j e
    ∙ ap (λ l. l ++ j ∷ []) (map_same (range_with_len a n))
  where
    map_same : (xs : List ℕ) → map (λ k. k) xs ≡ xs
    map_same [] = refl
    map_same (x ∷ xs) = ap (λ l. x ∷ l) (map_same xs)

-- a frame more
pub made_more : (codec : Codec) (m : Made) (n : ℕ) → made_from codec m (n + 1) ≡ one_more codec (made_from codec m n) n
made_more codec m n =
    ap (λ l. fold (one_more codec) m l) (range_more 0 n n (omega arith))
    ∙ fold-append (one_more codec) m (range_with_len 0 n) (n ∷ [])

-- a cell more of a block
pub block_more : (codec : Codec) (d mid last : Draws) (n : ℕ) (cells : List Cell) (cell : Cell)
    → MakesBlock codec d n cells mid → MakesFrame codec (frame_made codec mid.state) cell last
    → MakesBlock codec d (n + 1) (cells ++ cell ∷ []) last
block_more codec d mid last n cells cell b f =
    let from = none_made d.state in
    let more = made_more codec from n in
    let state : (made_from codec from n).state ≡ mid.state = b.state in
    let made : frame_made codec (made_from codec from n).state ≡ frame_made codec mid.state = ap (frame_made codec) state in
    record {
      frames = ap (λ (m : Made). m.frames) more
          ∙ ap (λ l. l ++ (frame_made codec (made_from codec from n).state).frames) b.frames
          ∙ ap (λ l. frames_of cells ++ l) (ap (λ (m : Made). m.frames) made ∙ f.frames)
          ∙ sym (map-append frame_of cells (cell ∷ []));
      state = ap (λ (m : Made). m.state) more ∙ ap (λ (m : Made). m.state) made ∙ f.state;
      block = record {
        present = all_append _ cells (cell ∷ []) b.block.present (f.present, tt);
        block = record {
          whole = ap length (map-append frame_of cells (cell ∷ [])) ∙ length_more (frames_of cells) (frame_of cell) n b.block.block.whole;
          frames = subst (AllByRecursion (IsFrame codec)) (sym (map-append frame_of cells (cell ∷ [])))
              (all_append _ (frames_of cells) (frame_of cell ∷ []) b.block.block.frames (f.of_codec, tt));
        };
      };
    }
  where
    length_more : (xs : List Frame) (x : Frame) (n : ℕ) → length xs ≡ n → length (xs ++ x ∷ []) ≡ n + 1
    length_more xs x n e = length-append xs (x ∷ []) ∙ ap (λ k. k + 1) e
