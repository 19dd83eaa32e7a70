use Rattle.std.proofs.Common.{ap, ◌∙◌, sym}
use Rattle.std.proofs.lemmas.Result.{on_err_weaker, on_ok_weaker}
use Rattle.amr_sender.specs.Sender.{View}
use Rattle.convert_engine.specs.Converts.{Converts, ConvertsPart}
use Rattle.convert_engine.proofs.Heard.{heard, heard_part, lent, ready_in, valid_in}
use Rattle.convert_engine.proofs.hearing.convert_record.Goals as goal

pub hear-requires-clause-sink : goal.hear-requires-clause-sink
hear-requires-clause-sink g c =
    let from = c.new-blocks.ensures.sender in
    record {
      ready = ready_in c.new-blocks.result c.args.sender.now from c.requires.unspent;
      codec = ap (λ (v : View). v.plan.profile.codec) from ∙ c.requires.sends.codec;
      channels = ap (λ (v : View). v.plan.profile.channels) from ∙ c.requires.sends.channels;
    }

pub returns-clause-done : goal.returns-clause-done
returns-clause-done g c =
    let sends = c.new-blocks.ensures in
    let stays = c.hear.ensures.step.same in
    let to = c.sender-1.given.1 (sym (stays.sender ∙ sends.same_sender)) in
    let after = c.output-1.given.1 (sym (stays.output ∙ sends.same_output)) in
    let l = c.args.listener.now in
    let l' = c.hear.new.self in
    on_ok_weaker c.hear.result
    (λ h. lent g.O.Sink (λ v w a b. Converts l l' v w c.args.octets.now a b) _ _ _ _ c.new-blocks.result c.hear.new.out
    sends.sender sends.output to after
    (heard g.O.Sink c.new-blocks.result c.hear.new.out l l' c.args.octets.now c.hear.ensures.job h))
    c.hear.ensures.heard

pub returns-clause-part : goal.returns-clause-part
returns-clause-part g c =
    let sends = c.new-blocks.ensures in
    let stays = c.hear.ensures.step.same in
    let to = c.sender-1.given.1 (sym (stays.sender ∙ sends.same_sender)) in
    let after = c.output-1.given.1 (sym (stays.output ∙ sends.same_output)) in
    let l = c.args.listener.now in
    on_err_weaker c.hear.result
    (λ h. lent g.O.Sink (λ v w a b. ConvertsPart l v c.args.octets.now a b) _ _ _ _ c.new-blocks.result c.hear.new.out
    sends.sender sends.output to after
    (heard_part g.O.Sink c.new-blocks.result c.hear.new.out l c.hear.new.self c.args.octets.now
    (valid_in c.new-blocks.result c.args.sender.now sends.sender c.requires.sends.valid) h))
    c.hear.ensures.part
