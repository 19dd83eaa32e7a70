use Rattle.std.proofs.Common.{ap, ◌∙◌, sym}
use Rattle.std.proofs.lemmas.Result.{on_err_weaker, on_ok_weaker}
use Rattle.amr_sender.specs.Sender.{View}
use Rattle.convert_engine.specs.Converts.{Releases, ReleasesPart}
use Rattle.convert_engine.proofs.Heard.{lent, ready_in, released_all, released_part, valid_in}
use Rattle.convert_engine.proofs.hearing.release_rest.Goals as goal

pub finish-requires-clause-sink : goal.finish-requires-clause-sink
finish-requires-clause-sink g c =
    let from = c.new-blocks.ensures.sender in
    record {
      ready = ready_in c.new-blocks.result c.args.sender.now from c.requires.unspent;
      codec = ap (λ (v : View). v.plan.profile.codec) from ∙ c.requires.sends.codec;
      channels = ap (λ (v : View). v.plan.profile.channels) from ∙ c.requires.sends.channels;
    }

pub returns-clause-done : goal.returns-clause-done
returns-clause-done g c =
    let sends = c.new-blocks.ensures in
    let stays = c.finish.ensures.step.same in
    let to = c.sender-1.given.1 (sym (stays.sender ∙ sends.same_sender)) in
    let after = c.output-1.given.1 (sym (stays.output ∙ sends.same_output)) in
    let l = c.args.listener.now in
    let l' = c.finish.new.self in
    on_ok_weaker c.finish.result
    (λ h. lent g.O.Sink (λ v w a b. Releases l l' v w a b) _ _ _ _ c.new-blocks.result c.finish.new.out
    sends.sender sends.output to after
    (released_all g.O.Sink c.new-blocks.result c.finish.new.out l l' c.requires.going h))
    c.finish.ensures.ended

pub returns-clause-part : goal.returns-clause-part
returns-clause-part g c =
    let sends = c.new-blocks.ensures in
    let stays = c.finish.ensures.step.same in
    let to = c.sender-1.given.1 (sym (stays.sender ∙ sends.same_sender)) in
    let after = c.output-1.given.1 (sym (stays.output ∙ sends.same_output)) in
    let l = c.args.listener.now in
    on_err_weaker c.finish.result
    (λ h. lent g.O.Sink (λ v w a b. ReleasesPart l v a b) _ _ _ _ c.new-blocks.result c.finish.new.out
    sends.sender sends.output to after
    (released_part g.O.Sink c.new-blocks.result c.finish.new.out l c.finish.new.self
    (valid_in c.new-blocks.result c.args.sender.now sends.sender c.requires.sends.valid) h))
    c.finish.ensures.part
