use Rattle.std.proofs.Common.{ℕ, arith, length-drop, length-take, ◌∙◌}
use Rattle.amr_io.proofs.Pieces.{appends_front}
use Rattle.amr_io.proofs.whole.write_rest.Goals as goal

pub loop-done-preserved : goal.loop-done-preserved
loop-done-preserved g c =
    let before = c.loop-done.invariant in
    let clauses = c.in_ok-done.ensures in record {
      within = omega (arith, length-drop {A = ℕ}, length-take {A = ℕ}, clauses.octets.1);
      written = appends_front _ _ _ _ c.loop-done.done c.in_ok-done.field-0 before.written clauses.octets.2;
      faults = clauses.cause ∙ before.faults;
      beside = clauses.beside ∙ before.beside;
      same = g.met.S.Sink.transitive _ _ _ before.same clauses.same;
    }
