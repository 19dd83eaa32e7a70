use Rattle.std.proofs.Common.{◌≡◌, ◌-◌, ◌≤◌, length, take}
use Rattle.std.specs.Io.KnownBytes.{Appends}
use Rattle.amr_io.proofs.whole.write_rest.Given as goal

abbrev pub invariant-loop-done : goal.invariant-loop-done
invariant-loop-done g l = record {
  within : l.done ≤ length l.bytes;
  written : Appends (g.S.Sink.got l.initial.sink) (g.S.Sink.got l.sink) (take l.done l.bytes);
  faults : g.S.Sink.faults l.sink ≡ g.S.Sink.faults l.initial.sink;
  beside : g.S.Sink.beside l.sink ≡ g.S.Sink.beside l.initial.sink;
  same : g.S.Sink.same l.initial.sink l.sink;
}

abbrev pub decreases-loop-done : goal.decreases-loop-done
decreases-loop-done g l = length l.bytes - l.done
