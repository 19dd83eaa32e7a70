use Rattle.std.proofs.Common.{refl, arith}
use Rattle.amr_playout.proofs.Plans.{facts}
use Rattle.amr_playout.proofs.Renewing.{first_part, renews, rest_part, stays_after, stays_wrong}
use Rattle.amr_playout.proofs.Results.{on_err}
use Rattle.amr_playout.specs.Heard.{heard}
use Rattle.amr_playout.proofs.step.begin.Goals as goal

pub returns-in_err-rest-clause-part : goal.returns-in_err-rest-clause-part
returns-in_err-rest-clause-part g c =
    on_err c.from_residual.result _
    (rest_part g.B.BlockSink c.args.plan.now c.args.before.now (heard c.args.rtp.now c.args.payload.now) c.args.ring.now
    c.restart.new.ring c.args.out.now c.restart.new.out c.restart.new.out c.in_err-rest.ensures.part)

pub returns-in_err-step-clause-part : goal.returns-in_err-step-clause-part
returns-in_err-step-clause-part g c =
    on_err c.from_residual-in_err-step.result _
    (first_part g.B.BlockSink c.args.plan.now c.args.before.now
    (heard c.args.rtp.now c.args.payload.now) c.args.ring.now
    c.restart.new.ring c.args.out.now c.restart.new.out c.accept.new.out c.in_ok-rest.rest c.in_ok-rest.ensures.over
    c.in_err-step.ensures.part)

pub returns-in_err-step-clause-stays : goal.returns-in_err-step-clause-stays
returns-in_err-step-clause-stays g c =
    let wrong = c.from_residual-in_err-step in
    stays_after g.B.BlockSink g.met.B.BlockSink.transitive c.args.plan.now c.restart.new.ring c.accept.new.ring c.args.out.now
    c.restart.new.out c.accept.new.out c.in_ok-rest.rest wrong.result c.in_ok-rest.ensures.stays
    (stays_wrong g.B.BlockSink c.args.plan.now c.accept.new.ring c.restart.new.out c.accept.new.out _ wrong.result
    wrong.ensures.0 c.in_err-step.ensures.stays)

pub overflow_add-result : goal.overflow_add-result
overflow_add-result g c =
    let few = c.in_ok-rest.ensures.over.few in
    let none = c.in_ok-step.ensures.accepted.none refl in
    let narrow = (facts c.args.plan.now c.requires.ready.ready.ringed.planned).narrow in
    omega (arith, few, none, narrow)

pub returns-clause-renewed : goal.returns-clause-renewed
returns-clause-renewed g c =
    renews g.B.BlockSink c.args.plan.now c.args.before.now (heard c.args.rtp.now c.args.payload.now) c.args.ring.now
    c.restart.new.ring c.args.out.now c.restart.new.out c.accept.new.out c.accept.new.ring c.in_ok-rest.rest c.in_ok-step.step
    c.in_ok-rest.ensures.over c.in_ok-step.ensures.accepted

pub returns-clause-stays : goal.returns-clause-stays
returns-clause-stays g c =
    let s = stays_after g.B.BlockSink g.met.B.BlockSink.transitive c.args.plan.now c.restart.new.ring c.accept.new.ring
    c.args.out.now c.restart.new.out c.accept.new.out c.in_ok-rest.rest _ c.in_ok-rest.ensures.stays c.in_ok-step.ensures.stays in
    record {
      ringed = s.ringed;
      step = record { cause = s.step.cause; same = s.step.same; ready = s.step.ready; kept = s.step.kept };
    }
