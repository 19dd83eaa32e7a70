-- The bodies of cells, cell by cell.
use Rattle.std.proofs.Common.{◌≡◌, ℕ, ◌+◌, ◌<◌, ◌≤◌, List, [], ◌++◌, length, drop, get_or, sym, ap, arith, ◌∙◌}
use Rattle.std.proofs.lemmas.List.{at_drop_all, at_drop_more, length-append}
use Rattle.amr_be.specs.Parts.{body_part}
use Rattle.amr_bits.proofs.Runs.{length-run}
use Rattle.amr_bits.specs.Runs.{kept}
use Rattle.amr_frame.specs.Blocks.{frames_of}
use Rattle.amr_frame.specs.declared.cell.Cell.{Cell}

-- the bits of the cells from one on
pub bodies_from : (cells : List Cell) (k : ℕ) (cell : Cell) → cell ≡ get_or cells k cell → k < length cells → body_part (frames_of (drop k cells)) ≡ kept cell.bits ++ body_part (frames_of (drop (k + 1) cells))
bodies_from cells k cell is h =
    at_drop_more (λ (xs : List Cell). body_part (frames_of xs)) cells k cell h
    ∙ ap (λ (x : Cell). kept x.bits ++ body_part (frames_of (drop (k + 1) cells))) (sym is)

-- and how many they are
pub bodies_left : (cells : List Cell) (k n : ℕ) (cell : Cell) → cell ≡ get_or cells k cell → k < length cells
    → n ≡ length (kept cell.bits)
    → length (body_part (frames_of (drop k cells))) ≡ n + length (body_part (frames_of (drop (k + 1) cells)))
bodies_left cells k n cell is h size =
    let split = ap length (bodies_from cells k cell is h) ∙ length-append (kept cell.bits)
    (body_part (frames_of (drop (k + 1) cells))) in
    omega (arith, split, size)

-- those of one cell are as many as are lent
pub lent_long : (cell : Cell) {n : ℕ} → n ≡ cell.bits.len → n ≡ length (kept cell.bits)
lent_long cell e = e ∙ sym (length-run cell.bits.octets 0 cell.bits.len)

-- there are none behind the last cell
pub no_bodies : (cells : List Cell) (k : ℕ) → length cells ≤ k → body_part (frames_of (drop k cells)) ≡ []
no_bodies cells k h = at_drop_all (λ (xs : List Cell). body_part (frames_of xs)) cells k h
