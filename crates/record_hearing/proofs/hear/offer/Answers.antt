use Rattle.std.proofs.Common.{◌≡◌, ◌+◌, [], ◌∷◌, ◌++◌, length, sym, ap, ◌∙◌, subst, arith, rules}
use Rattle.record_hearing.proofs.Bounds.{bounded_more, takes_packets}
use Rattle.record_hearing.proofs.Carried.{fault_at, refusal_at, refused, step_err, step_none, step_ok, told_at}
use Rattle.record_hearing.proofs.Offered.{accepts}
use Rattle.amr_playout.specs.Gains.{Gains, GainsPart}
use Rattle.amr_playout.specs.Heard.{heard}
use Rattle.amr_playout.specs.Plans.{IsPlan, rules_in}
use Rattle.amr_playout.specs.Steps.{TakesPlan}
use Rattle.amr_playout.specs.declared.plan.Plan.{Plan}
use Rattle.spec_segments.specs.Release.{gone_out}
use Rattle.spec_segments.specs.Segments.{accepted}
use Rattle.record_hearing.proofs.hear.offer.Goals as goal

pub offer-requires-clause-sink : goal.offer-requires-clause-sink
offer-requires-clause-sink g c =
    subst (λ (p : Plan). TakesPlan g.B.BlockSink p c.args.out.now) (sym c.requires.ready.served.plan) c.requires.sink

pub offer-requires-clause-ready : goal.offer-requires-clause-ready
offer-requires-clause-ready g c =
    let ready = c.requires.ready in
    let few = ready.few in
    takes_packets ready.records c.args.receiver.now ready.unspent (omega (arith, few)) ready.bounded

pub returns-in-Ok-clause-offered : goal.returns-in-Ok-clause-offered
returns-in-Ok-clause-offered g c =
    let x = heard c.args.rtp.now c.args.payload.now in
    let v = c.args.receiver.now in
    let new = c.in-Ok.ensures.answer in
    let plan = c.requires.ready.served.plan in
    record {
      of_session = tt;
      stands = new.stands;
      out = λ h stands.
          told_at (Gains g.B.BlockSink.whole _ _) (λ (p : Plan). gone_out (rules_in p) h) (λ (p : Plan). gone_out (rules_in p) (h ++ x ∷ [])) v.plan c.args.job.now.plan plan (new.out h stands);
      accepts = λ h stands.
          subst (λ (p : Plan). length (accepted (rules_in p) (h ++ x ∷ [])) ≡ length (accepted (rules_in p) h) + 1) plan
          (accepts (rules_in v.plan) h x (new.verdict h stands));
      on = record {
        unspent = new.unspent;
        bounded = λ n b.
            bounded_more n v c.offer.new.self c.in-Ok.field-0.late c.in-Ok.field-0.copies c.in-Ok.field-0.released
            (subst IsPlan (sym plan) c.requires.ready.served.served.plan) new.moves new.few new.counts b;
      };
    }

pub returns-in-Err-BlockFault-clause-part : goal.returns-in-Err-BlockFault-clause-part
returns-in-Err-BlockFault-clause-part g c =
    let failed = fault_at _ _ _ _ _ _ c.in-Err-BlockFault.field-0 c.in-Err-BlockFault.field-0-is c.in-Err-BlockFault.ensures.answer in
    let x = heard c.args.rtp.now c.args.payload.now in
    record {
      out = λ h stands.
          told_at (GainsPart g.B.BlockSink.whole g.B.BlockSink.part _ _) (λ (p : Plan). gone_out (rules_in p) h) (λ (p : Plan). gone_out (rules_in p) (h ++ x ∷ [])) c.args.receiver.now.plan c.args.job.now.plan c.requires.ready.served.plan (failed.part h stands);
    }

pub returns-in-Err-Refused-clause-offered : goal.returns-in-Err-Refused-clause-offered
returns-in-Err-Refused-clause-offered g c =
    refused g.B.BlockSink c.args.job.now c.args.receiver.now c.offer.new.self (heard c.args.rtp.now c.args.payload.now) c.args.out.now _
    _ c.requires.ready.served.plan c.requires.ready.unspent
    (refusal_at _ _ _ _ _ _ c.in-Err-Refused.field-0 _ c.in-Err-Refused.field-0-is c.in-Err-Refused.ensures.answer)

pub returns-in-Ok-clause-step : goal.returns-in-Ok-clause-step
returns-in-Ok-clause-step g c = record {
  plan = search rules;
  step = step_ok g.B.BlockSink _ _ _ _ c.in-Ok.ensures.answer.step;
}

pub returns-in-Err-Refused-clause-step : goal.returns-in-Err-Refused-clause-step
returns-in-Err-Refused-clause-step g c =
    let r = refusal_at _ _ _ _ _ _ c.in-Err-Refused.field-0 _ c.in-Err-Refused.field-0-is c.in-Err-Refused.ensures.answer in
    record {
      plan = search rules;
      step = step_none g.B.BlockSink c.args.job.now.plan _ _ _ g.met.B.BlockSink.reflexive c.requires.sink r.sink;
    }

pub returns-in-Err-BlockFault-clause-step : goal.returns-in-Err-BlockFault-clause-step
returns-in-Err-BlockFault-clause-step g c =
    let failed = fault_at _ _ _ _ _ _ c.in-Err-BlockFault.field-0 c.in-Err-BlockFault.field-0-is c.in-Err-BlockFault.ensures.answer in
    record {
      plan = search rules;
      step = step_err g.B.BlockSink _ _ _ _ failed.step;
    }
