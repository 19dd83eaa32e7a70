use Rattle.std.proofs.Common.{◌≡◌, ◌-◌, ◌≤◌, length}
use Rattle.amr_store.specs.Reading.{channels_of, given, limit_of}
use Rattle.log_engine.specs.Turns.{SameSink, sent}
use Rattle.spec_run.specs.Flows.{Calm, read_from}
use Rattle.stream_engine.specs.Progress.{Underway, start_of, state}
use Rattle.stream_engine.proofs.run.send_blocks.Given as goal

abbrev pub invariant-file : goal.invariant-file
invariant-file g l = record {
  counted : l.blocks ≡ l.sender.blocks;
  few : l.sender.blocks ≤ given l.reader;
  within : given l.reader ≤ limit_of l.reader;
  cells : length l.cells ≡ channels_of l.reader;
  calm_in : Calm (read_from g.I.Source l.fn.input l.input);
  calm_out : Calm (sent g.O.Sink l.fn.sink l.sink);
  same : SameSink g.O.Sink l.fn.sink l.sink;
  under : Underway g.I.Source g.O.Sink
      (start_of g.I.Source g.O.Sink (state l.fn.sender l.fn.reader l.fn.input l.fn.sink))
      (state l.sender l.reader l.input l.sink);
}

abbrev pub decreases-file : goal.decreases-file
decreases-file g l = limit_of l.reader - given l.reader
