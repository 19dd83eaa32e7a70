use Rattle.std.proofs.Common.{◌≡◌, ◌-◌, ◌≤◌, ℕ, List, length, map, take, sym, ap, subst, ◌∙◌, arith}
use Rattle.std.proofs.lemmas.List.{length-map, take_all}
use Rattle.amr_bits.specs.Layout.{settled}
use Rattle.amr_frame.specs.Blocks.{frames_of}
use Rattle.amr_frame.specs.Cells.{frame_of}
use Rattle.amr_frame.specs.declared.cell.Cell.{Cell}
use Rattle.amr_toc.specs.declared.entry.Entry.{Entry}
use Rattle.amr_toc.specs.Entries.{AreWritable, heading, headings, table_text}
use Rattle.amr_toc.proofs.Tables.{same_table, writable}
use Rattle.amr_toc.proofs.write.entries_of.Goals as goal

-- those of all cells
all_of : (es : List Entry) (cells : List Cell) (k : ℕ) → es ≡ headings (frames_of (take k cells)) → length cells ≤ k
    → es ≡ headings (frames_of cells)
all_of es cells k e h = e ∙ ap (λ (xs : List Cell). headings (frames_of xs)) (take_all k cells h)

pub returns-clause-count : goal.returns-clause-count
returns-clause-count c =
    let cells = c.args.cells.now in
    let items = all_of c.loop-cell.entries.items cells c.loop-cell.cell-index c.loop-cell.invariant (omega arith) in
    ap length items ∙ length-map (frames_of cells) heading ∙ length-map cells frame_of

pub returns-clause-writable : goal.returns-clause-writable
returns-clause-writable c = λ width wide.
    let cells = c.args.cells.now in
    let items = all_of c.loop-cell.entries.items cells c.loop-cell.cell-index c.loop-cell.invariant (omega arith) in
    subst (AreWritable width) (sym items) (writable width (frames_of cells) wide c.requires.frames)

pub returns-clause-text : goal.returns-clause-text
returns-clause-text c = λ width.
    let cells = c.args.cells.now in
    let items = all_of c.loop-cell.entries.items cells c.loop-cell.cell-index c.loop-cell.invariant (omega arith) in
    ap (table_text width) items ∙ ap (map settled) (same_table (width - 6) (frames_of cells))
