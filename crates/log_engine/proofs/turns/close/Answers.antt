use Rattle.std.proofs.Common.{rules}
use Rattle.log_engine.proofs.GrowsLemmas.{flushed_step}
use Rattle.log_engine.proofs.turns.close.Goals as goal

pub returns-clause-step : goal.returns-clause-step
returns-clause-step g c = flushed_step g.H.RecordHandler g.O.Sink g.met.O.Sink.transitive _ _ c.args.sink.now c.end.new.output
    c.flush.new.self _ c.end.ensures.step.kept c.end.ensures.step.step.same c.end.ensures.step.step.beside
    c.flush.ensures.step.same (search rules) (search rules)
