use Rattle.std.proofs.Common.{rules}
use Rattle.log_engine.proofs.GrowsLemmas.{flushed_step, part_kept}
use Rattle.log_engine.proofs.turns.begin.Goals as goal

pub returns-clause-failed : goal.returns-clause-failed
returns-clause-failed g c =
    part_kept _ _ _ _ c.flush.result c.in_ok-begin.ensures.done.1 c.flush.ensures.step.kept

pub returns-clause-step : goal.returns-clause-step
returns-clause-step g c = flushed_step g.H.RecordHandler g.O.Sink g.met.O.Sink.transitive _ _ c.args.sink.now c.begin.new.output
    c.flush.new.self _ c.begin.ensures.step.kept c.begin.ensures.step.step.same c.begin.ensures.step.step.beside
    c.flush.ensures.step.same (search rules) (search rules)
