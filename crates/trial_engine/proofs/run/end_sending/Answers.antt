use Rattle.spec_sending.specs.Sending.{begun, sent}
use Rattle.trial_engine.proofs.Ran.{end_never_fails, put_more}
use Rattle.trial_engine.proofs.run.end_sending.Goals as goal

pub unreachable-requires : goal.unreachable-requires
unreachable-requires c =
    let some = c.requires.sending in
    let has = some.3 in
    let part = c.in_default.ensures.part.part some.2 has.stands in
    end_never_fails some.0 some.1 c.args.sender.now c.args.line.now c.finish.new.out some.2 has c.requires.few
    c.in_default.ensures.step.ready part.packets part.more_by part.got

pub returns : goal.returns
returns c job seed blocks has =
    let old = c.args.sender.now in
    let out = c.in-Ok.ensures.finished.out blocks has.stands in
    put_more job seed c.args.line.now c.finish.new.out (begun old.plan blocks) (sent old.plan blocks) out.packets out.more_by
    out.got has.on
