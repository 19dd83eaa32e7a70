use Rattle.std.proofs.Common.{◌≡◌, length}
use Rattle.std.specs.Io.KnownBytes.{Keeps, append_known}
use Rattle.log_engine.specs.Tray.{Grows}
use Rattle.log_engine.proofs.gather.Gather.flush.Given as goal

abbrev pub invariant-sending : goal.invariant-sending
invariant-sending g l = record {
  kept : Keeps (append_known (g.O.Sink.got l.initial.output) l.initial.self.waiting)
      (append_known (g.O.Sink.got l.output) l.self.waiting);
  room : l.self.room ≡ l.initial.self.room;
  faults : g.O.Sink.faults l.output ≡ g.O.Sink.faults l.initial.output;
  beside : g.O.Sink.beside l.output ≡ g.O.Sink.beside l.initial.output;
  grows : Grows (g.O.Sink.got l.initial.output) (g.O.Sink.got l.output);
  same : g.O.Sink.same l.initial.output l.output;
}

abbrev pub decreases-sending : goal.decreases-sending
decreases-sending g l = length l.self.waiting
