use Rattle.std.proofs.Common.{rules}
use Rattle.stream_engine.proofs.Came.{close_step, rest_kept}
use Rattle.stream_engine.proofs.turns.close.Goals as goal

pub returns-clause-part : goal.returns-clause-part
returns-clause-part g c =
    rest_kept _ _ _ _ _ c.flush.result c.in_ok-send_rest.ensures.sent c.flush.ensures.step.kept

pub returns-clause-step : goal.returns-clause-step
returns-clause-step g c = close_step g.O.Sink g.met.O.Sink.transitive c.args.sink.now c.send_rest.new.output
    c.flush.new.self _ c.send_rest.ensures.step.same c.send_rest.ensures.step.beside c.flush.ensures.step.same
    (search rules)
