use Rattle.std.proofs.Common.{sym, ◌∙◌}
use Rattle.std.proofs.lemmas.Result.{on_err_weaker, on_ok_weaker}
use Rattle.stream_engine.proofs.Logged.{rest_part, rest_sent}
use Rattle.stream_engine.proofs.send.send_rest.Goals as goal

pub returns-clause-sent : goal.returns-clause-sent
returns-clause-sent g c =
    let after = c.output-1.given.1 (sym (c.finish.ensures.step.same.reference ∙ c.new-log.ensures.same_reference)) in
    on_ok_weaker c.finish.result
    (rest_sent g.O.Sink _ (λ v l w h. h) (λ v l w h. h) _ _ _ _ c.new-log.ensures.now after _ _) c.finish.ensures.finished

pub returns-clause-part : goal.returns-clause-part
returns-clause-part g c =
    let after = c.output-1.given.1 (sym (c.finish.ensures.step.same.reference ∙ c.new-log.ensures.same_reference)) in
    on_err_weaker c.finish.result
    (rest_part g.O.Sink _ (λ v l w h. h) (λ v l w h. h) _ _ _ _ c.new-log.ensures.now after _) c.finish.ensures.part
