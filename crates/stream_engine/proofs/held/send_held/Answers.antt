use Rattle.std.proofs.Common.{refl, sym, ap, ◌∙◌}
use Rattle.spec_sending.specs.declared.plan.SendPlan.{SendPlan}
use Rattle.amr_sender.specs.Single.{SendsSingly}
use Rattle.std.proofs.Common.{subst}
use Rattle.stream_engine.proofs.Units.{none_sent, one_sent, own_sent}
use Rattle.stream_engine.proofs.held.send_held.Goals as goal

pub held-init : goal.held-init
held-init g c =
    let single : SendsSingly c.args.sender.now.plan = c.if-not-sends_singly.ensures.0 refl in
    record {
      sent = none_sent g.O.Sink c.args.sender.now c.args.reader.now c.args.sink.now
          (g.met.O.Sink.reflexive c.args.sink.now.output.now);
      single = single;
      unspent = c.requires.unspent;
      codec = c.requires.reading.codec;
      one = c.requires.reading.channels ∙ single.channels;
    }

pub held-preserved : goal.held-preserved
held-preserved g c =
    let kept = c.held.invariant in
    let ahead = c.in-Some.ensures in
    let unit = c.in-Some.unit in
    let passes = c.pass_unit.ensures in
    let plan = c.send_unit.ensures.plan in
    record {
      sent = one_sent g.O.Sink _ c.held.sender c.send_unit.new.sender _ c.held.reader c.pass_unit.new.self _ c.held.sink
          _ c.held.count unit.size kept.sent
          (own_sent c.held.sender c.send_unit.new.sender c.held.reader unit _ _ kept.codec ahead c.send_unit.ensures.sends)
          plan passes ahead.holds.some refl;
      single = subst SendsSingly (sym plan) kept.single;
      unspent = c.send_unit.ensures.unspent;
      codec = passes.same.codec ∙ kept.codec ∙ ap (λ (s : SendPlan). s.profile.codec) (sym plan);
      one = passes.same.channels ∙ kept.one;
    }
