-- Cells of blocks, and steps of a sink of blocks in a row.
use Rattle.std.proofs.Common.{◌≡◌, inl, inr, List, [], ◌∷◌, ◌++◌, map, cond, IsTrue, Some, None, refl, sym, subst, ap, ◌∙◌, append_assoc, append-nil}
use Rattle.std.specs.List.{AllByRecursion}
use Rattle.amr_frame.specs.declared.cell.Cell.{Cell}
use Rattle.amr_frame.specs.Blocks.{frames_of, GotBlocks, GotAtMostPart, GotPrefix}
use Rattle.amr_frame.specs.Cells.{frame_of, held}
use Rattle.amr_frame.specs.Frames.{Frame}

-- present cells hold their frames
pub map-held : (cells : List Cell) → AllByRecursion (λ (cell : Cell). IsTrue cell.present) cells → map held cells ≡ map (λ (f : Frame). Some f) (frames_of cells)
map-held [] p = refl
map-held (cell ∷ cells) p =
    let first : held cell ≡ Some (frame_of cell) = ap (λ present. cond present (Some (frame_of cell)) None) p.0 in
    ap (λ o. o ∷ map held cells) first ∙ ap (λ os. Some (frame_of cell) ∷ os) (map-held cells p.1)

-- one more block at the end
pub GotBlocks-more : {S B : Type 0} (whole : S → B → S → Type 0) (before : S) (blocks : List B) (between : S) (block : B) (after : S)
    → GotBlocks whole before blocks between → whole between block after → GotBlocks whole before (blocks ++ block ∷ []) after
GotBlocks-more whole before [] between block after p q = (after, subst (λ s. whole s block after) p q, refl)
GotBlocks-more whole before (first ∷ blocks) between block after p q = (p.0, p.1, GotBlocks-more whole p.0 blocks between block after p.2 q)

-- blocks and then further ones
pub GotBlocks-append : {S B : Type 0} (whole : S → B → S → Type 0) (before : S) (blocks : List B) (between : S) (further : List B) (after : S)
    → GotBlocks whole before blocks between → GotBlocks whole between further after → GotBlocks whole before (blocks ++ further) after
GotBlocks-append whole before [] between further after p q = subst (λ s. GotBlocks whole s further after) p q
GotBlocks-append whole before (first ∷ blocks) between further after p q = (p.0, p.1, GotBlocks-append whole p.0 blocks between further after p.2 q)

-- a relation that is reflexive, transitive, and holds over each whole step, holds over all of them
pub GotBlocks-through : {S B : Type 0} (whole : S → B → S → Type 0) (R : S → S → Type 0) → ((s : S) → R s s) → ((a b c : S) → R a b → R b c → R a c)
    → ((s : S) (block : B) (t : S) → whole s block t → R s t) → (before : S) (blocks : List B) (after : S) → GotBlocks whole before blocks after → R before after
GotBlocks-through whole R rests goes each before [] after p = subst (R before) (sym p) (rests before)
GotBlocks-through whole R rests goes each before (block ∷ blocks) after p =
    goes before p.0 after (each before block p.0 p.1) (GotBlocks-through whole R rests goes each p.0 blocks after p.2)

-- all blocks are a prefix
pub GotPrefix-whole : {S B : Type 0} (whole part : S → B → S → Type 0) (before : S) (blocks : List B) (after : S)
    → GotBlocks whole before blocks after → GotPrefix whole part before blocks after
GotPrefix-whole whole part before blocks after p = record { got = blocks; rest = []; between = after; split = sym (append-nil blocks); steps = p; end = refl }

-- whole steps, and then a part step
pub GotPrefix-part : {S B : Type 0} (whole part : S → B → S → Type 0) (before : S) (blocks : List B) (between : S) (block : B) (rest : List B) (after : S)
    → GotBlocks whole before blocks between → part between block after → GotPrefix whole part before (blocks ++ block ∷ rest) after
GotPrefix-part whole part before blocks between block rest after p q =
    record { got = blocks; rest = block ∷ rest; between = between; split = refl; steps = p; end = inr q }

-- blocks, and then a prefix of further ones
pub GotPrefix-behind : {S B : Type 0} (whole part : S → B → S → Type 0) (before : S) (blocks : List B) (between : S) (further : List B) (after : S)
    → GotBlocks whole before blocks between → GotPrefix whole part between further after → GotPrefix whole part before (blocks ++ further) after
GotPrefix-behind whole part before blocks between further after p q = record {
  got = blocks ++ q.got;
  rest = q.rest;
  between = q.between;
  split = ap (λ l. blocks ++ l) q.split ∙ sym (append_assoc blocks q.got q.rest);
  steps = GotBlocks-append whole before blocks between q.got q.between p q.steps;
  end = q.end;
}

-- a prefix of blocks is one of more blocks
part_of_more : {S B : Type 0} (part : S → B → S → Type 0) (before : S) (rest more : List B) (after : S)
    → GotAtMostPart part before rest after → GotAtMostPart part before (rest ++ more) after
part_of_more part before [] [] after p = p
part_of_more part before [] (block ∷ more) after p = inl p
part_of_more part before (block ∷ rest) more after p = p

pub GotPrefix-longer : {S B : Type 0} (whole part : S → B → S → Type 0) (before : S) (blocks more : List B) (after : S)
    → GotPrefix whole part before blocks after → GotPrefix whole part before (blocks ++ more) after
GotPrefix-longer whole part before blocks more after p = record {
  got = p.got;
  rest = p.rest ++ more;
  between = p.between;
  split = ap (λ l. l ++ more) p.split ∙ append_assoc p.got p.rest more;
  steps = p.steps;
  end = part_of_more part p.between p.rest more after p.end;
}
