use Rattle.std.proofs.Common.{◌≡◌, ◌++◌, take, ap, sym, ◌∙◌, take-append-drop}
use Rattle.std.proofs.KnownBytes.{Keeps-trans, append_known-moved}
use Rattle.log_engine.proofs.GrowsLemmas.{Grows-through}
use Rattle.log_engine.proofs.gather.Gather.flush.Goals as goal

pub sending-preserved : goal.sending-preserved
sending-preserved g c =
    let before = c.sending.invariant in
    let wrote = rw c.waiting-in-sending.ensures at c.in_ok-count.ensures.octets.2 in
    let passed = c.pass.ensures in
    let n = c.in_ok-count.count in
    let split : c.sending.self.waiting ≡ take n c.sending.self.waiting ++ c.pass.new.self.waiting =
    sym (take-append-drop n c.sending.self.waiting)
    ∙ ap (λ l. take n c.sending.self.waiting ++ l) (sym (ap (λ t. t.waiting) passed)) in
    record {
      kept = Keeps-trans _ _ _ before.kept (append_known-moved _ _ _ _ _ wrote split);
      room = ap (λ t. t.room) passed ∙ before.room;
      faults = c.in_ok-count.ensures.cause ∙ before.faults;
      beside = c.in_ok-count.ensures.beside ∙ before.beside;
      grows = Grows-through _ _ _ before.grows (_, wrote);
      same = g.met.O.Sink.transitive _ _ _ before.same c.in_ok-count.ensures.same;
    }
