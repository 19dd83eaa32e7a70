use Rattle.std.proofs.Common.{◌≡◌, take}
use Rattle.std.specs.Io.KnownBytes.{Appends}
use Rattle.amr_frame.specs.Blocks.{frames_of}
use Rattle.amr_store.proofs.writer.write_cells.Given as goal
use Rattle.spec_store.specs.StorageFile.{block_text}

abbrev pub invariant-loop-cell : goal.invariant-loop-cell
invariant-loop-cell g l = record {
  put : Appends (g.O.Sink.got l.initial.sink) (g.O.Sink.got l.sink) (block_text (frames_of (take l.cell-index l.cells)));
  faults : g.O.Sink.faults l.sink ≡ g.O.Sink.faults l.initial.sink;
  beside : g.O.Sink.beside l.sink ≡ g.O.Sink.beside l.initial.sink;
  same : g.O.Sink.same l.initial.sink l.sink;
}
