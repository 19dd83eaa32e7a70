use Rattle.std.proofs.lemmas.Result.{on_err_weaker, on_ok_weaker}
use Rattle.convert_engine.proofs.Heard.{closed, closed_part, released_of}
use Rattle.record_hearing.proofs.Results.{on_err}
use Rattle.convert_engine.proofs.hearing.close.Goals as goal

pub returns-in_err-release_rest-clause-part : goal.returns-in_err-release_rest-clause-part
returns-in_err-release_rest-clause-part g c =
    let before = g.O.Sink.got c.args.output.now in
    let after = g.O.Sink.got c.release_rest.new.output in
    on_err c.from_residual.result _
    (released_of c.args.listener.now c.args.sender.now before after c.requires.sends.valid
    c.in_err-release_rest.ensures.part)

pub returns-clause-done : goal.returns-clause-done
returns-clause-done g c =
    let before = g.O.Sink.got c.args.output.now in
    let between = g.O.Sink.got c.release_rest.new.output in
    let after = g.O.Sink.got c.send_rest.new.output in
    on_ok_weaker c.send_rest.result
    (closed c.args.listener.now c.release_rest.new.listener c.args.sender.now c.release_rest.new.sender
    c.send_rest.new.sender before between after c.release_rest.ensures.plan c.in_ok-release_rest.ensures.done)
    c.send_rest.ensures.sent

pub returns-clause-part : goal.returns-clause-part
returns-clause-part g c =
    let before = g.O.Sink.got c.args.output.now in
    let between = g.O.Sink.got c.release_rest.new.output in
    let after = g.O.Sink.got c.send_rest.new.output in
    on_err_weaker c.send_rest.result
    (closed_part c.args.listener.now c.release_rest.new.listener c.args.sender.now c.release_rest.new.sender
    c.send_rest.new.sender before between after c.release_rest.ensures.plan c.in_ok-release_rest.ensures.done)
    c.send_rest.ensures.part
