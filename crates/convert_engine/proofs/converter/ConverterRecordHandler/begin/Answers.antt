use Rattle.std.proofs.Common.{refl}
use Rattle.convert_engine.proofs.converter.ConverterRecordHandler.begin.Goals as goal

pub returns-clause-step : goal.returns-clause-step
returns-clause-step g c = record {
  kept = refl;
  step = record { cause = refl; beside = refl; same = g.met.O.Sink.reflexive c.args._output.now };
}
