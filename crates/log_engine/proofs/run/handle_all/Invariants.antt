use Rattle.std.proofs.Common.{◌≡◌, ◌+◌, ◌*◌, ◌-◌, ◌≤◌, length}
use Rattle.log_engine.specs.Progress.{Underway}
use Rattle.log_engine.specs.Turns.{SameSink, sent, state}
use Rattle.rtp_packet.specs.Reading.{IsOpen, limit_of, rest, taken_of}
use Rattle.spec_run.specs.Flows.{Calm, read_from}
use Rattle.log_engine.proofs.run.handle_all.Given as goal

abbrev pub invariant-records : goal.invariant-records
invariant-records g l = record {
  unended : IsOpen l.reader;
  limit : limit_of l.reader ≡ limit_of l.fn.reader;
  within : taken_of l.reader ≤ limit_of l.reader;
  job : g.H.RecordHandler.job l.handler ≡ g.H.RecordHandler.job l.fn.handler;
  ready : g.H.RecordHandler.ready l.handler;
  counted : 2 * g.H.RecordHandler.handled l.handler + length (rest l.reader) ≤ taken_of l.reader;
  calm_in : Calm (read_from g.I.Source l.fn.input l.input);
  calm_out : Calm (sent g.O.Sink l.fn.sink l.sink);
  same : SameSink g.O.Sink l.fn.sink l.sink;
  under : Underway g.H.RecordHandler g.I.Source g.O.Sink
      (state l.fn.handler l.fn.reader l.fn.input l.fn.sink)
      (state l.handler l.reader l.input l.sink);
}

abbrev pub decreases-records : goal.decreases-records
decreases-records g l = (limit_of l.reader - taken_of l.reader) + length (rest l.reader)
