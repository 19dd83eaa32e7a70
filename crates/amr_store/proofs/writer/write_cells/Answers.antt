use Rattle.std.proofs.Common.{◌+◌, drop, refl, ◌∙◌, rules, subst, arith}
use Rattle.std.specs.Io.KnownBytes.{Appends}
use Rattle.std.proofs.KnownBytes.{Appends-nil, Appends-trans}
use Rattle.amr_frame.specs.Blocks.{frames_of}
use Rattle.amr_io.specs.Told.{AppendsFront}
use Rattle.amr_store.proofs.Blocks.{cells_next, cells_split}
use Rattle.amr_io.proofs.Fronts.{front_of_more, then_front}
use Rattle.amr_io.proofs.Results.{on_err}
use Rattle.amr_store.proofs.writer.write_cells.Goals as goal
use Rattle.spec_store.specs.StorageFile.{block_text}

pub loop-cell-init : goal.loop-cell-init
loop-cell-init g c = record { put = Appends-nil _; faults = refl; beside = refl; same = g.met.O.Sink.reflexive c.args.sink.now }

pub loop-cell-preserved : goal.loop-cell-preserved
loop-cell-preserved g c =
    let before = c.loop-cell.invariant in
    let clauses = c.in_ok-write_cell.ensures in
    let text = cells_next c.args.cells.now c.loop-cell.cell-index c.cell-item.result _ (omega arith) c.cell-item.is refl in
    record {
      put = subst (Appends (g.O.Sink.got c.args.sink.now) (g.O.Sink.got c.write_cell.new.sink)) text (Appends-trans _ _ _ _ _ before.put clauses.whole);
      faults = clauses.step.cause ∙ before.faults;
      beside = clauses.step.beside ∙ before.beside;
      same = g.met.O.Sink.transitive _ _ _ before.same clauses.step.same;
    }

pub returns-in_err-write_cell : goal.returns-in_err-write_cell
returns-in_err-write_cell g c =
    let before = c.loop-cell.invariant in
    let clauses = c.in_err-write_cell.ensures in
    let i = c.loop-cell.cell-index in
    let cells = c.args.cells.now in
    let text = cells_next cells i c.cell-item.result _ (omega arith) c.cell-item.is refl in
    record {
      whole = search rules;
      part = on_err c.from_residual.result
          (subst (AppendsFront (g.O.Sink.got c.args.sink.now) (g.O.Sink.got c.write_cell.new.sink))
          (cells_split cells (i + 1) _ text)
          (front_of_more _ _ _ (block_text (frames_of (drop (i + 1) cells)))
          (then_front _ (g.O.Sink.got c.loop-cell.sink) _ _ _ before.put clauses.part)));
      step = search rules;
    }
