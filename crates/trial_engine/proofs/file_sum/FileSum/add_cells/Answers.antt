use Rattle.std.proofs.Common.{arith, subst}
use Rattle.amr_store.proofs.Blocks.{cells_next}
use Rattle.trial_engine.proofs.Summed.{adds_both, text_few}
use Rattle.trial_engine.specs.Sums.{Adds}
use Rattle.std.proofs.Common.{List, ℕ, length, ◌+◌, ◌*◌, ◌≤◌}
use Rattle.trial_engine.proofs.file_sum.FileSum.add_cells.Goals as goal

pub loop-cell-preserved : goal.loop-cell-preserved
loop-cell-preserved c =
    let before = c.loop-cell.invariant in
    let i = c.loop-cell.cell-index in
    let clauses = c.write_frame-count.ensures in
    let text = cells_next c.args.cells.now i c.cell-item.result _ (omega arith) c.cell-item.is clauses.octets in
    record {
      adds = subst (Adds c.args.self.now c.add.new.self) text (adds_both _ _ _ _ _ before.adds c.add.ensures);
      few = subst (λ (t : List ℕ). length t ≤ 61 * (i + 1)) text (text_few _ _ _ i before.few clauses.count);
    }
