use Rattle.std.proofs.Common.{◌≡◌, length}
use Rattle.amr_store.specs.Reading.{IsUsable, channels_of}
use Rattle.amr_store.proofs.reader_tests.read_all.Given as goal

abbrev pub invariant-loop-given : goal.invariant-loop-given
invariant-loop-given l = record {
  usable : IsUsable l.reader;
  cells : length l.cells ≡ channels_of l.reader;
}
