use Rattle.std.proofs.Common.{ap, ◌∙◌, arith, sym, subst}
use Rattle.amr_playout.proofs.Offering.{accepted_by, fails, few_at, has_seat, inside_at, refused_by, refuses, spent_by}
use Rattle.amr_playout.proofs.Offering.{takes}
use Rattle.amr_playout.specs.declared.answers.Kept.{Kept}
use Rattle.amr_playout.specs.declared.answers.Taken.{Taken}
use Rattle.amr_playout.specs.Heard.{heard}
use Rattle.amr_playout.specs.Offers.{Fails, Refuses, Takes}
use Rattle.amr_playout.specs.Plans.{rules_in}
use Rattle.amr_playout.specs.Receiver.{TakesPackets, View}
use Rattle.amr_playout.specs.Steps.{taken_as}
use Rattle.amr_playout.specs.Verdicts.{stray_with}
use Rattle.amr_playout.proofs.receiver.Receiver.offer.Goals as goal

pub returns-in-Err-clause-answer : goal.returns-in-Err-clause-answer
returns-in-Err-clause-answer g c =
    let x = heard c.args.rtp.now c.args.payload.now in
    subst (λ (o : View). Refuses o (refused_by c.self.inside c.stray_behind-self-inside.result) x c.args.out.now c.args.out.now c.in-Err.why)
    c.self.view_is
    (refuses g.B.BlockSink c.self.inside x c.args.out.now c.args.out.now c.in-Err.why c.stray_behind-self-inside.result
    (c.stray_behind-self-inside.ensures
    ∙ ap (λ n. stray_with c.self.inside.stray n c.in-Err.why) c.sequence.ensures) c.in-Err.ensures.passed)

pub returns-in-Err-clause-same : goal.returns-in-Err-clause-same
returns-in-Err-clause-same g c = g.met.B.BlockSink.reflexive c.args.out.now

pub take-requires-clause-spot : goal.take-requires-clause-spot
take-requires-clause-spot g c =
    has_seat (rules_in c.self.inside.plan) c.self.inside.session c.self.inside.stray
    (heard c.args.rtp.now c.args.payload.now)
    c.in-Ok.spot c.in-Ok.ensures.found

pub with-self-inside-requires-clause-blocks : goal.with-self-inside-requires-clause-blocks
with-self-inside-requires-clause-blocks g c =
    let few = few_at g.B.BlockSink c.self.inside.plan c.self.inside.session _ _ _ _ _ c.in-Ok-take.step c.in-Ok.spot
    c.self.invariant.ring.planned c.in-Ok-take.ensures.taken in
    let ready = subst TakesPackets (sym c.self.view_is) c.requires.ready in
    let blocks = ready.blocks in
    let gone = ap (λ (t : Taken). t.released) c.taken_into-taken.ensures in
    omega (arith, few, blocks, gone)

pub invariant_of-self-in-Ok-take : goal.invariant_of-self-in-Ok-take
invariant_of-self-in-Ok-take g c =
    let few = few_at g.B.BlockSink c.self.inside.plan c.self.inside.session _ _ _ _ _ c.in-Ok-take.step c.in-Ok.spot
    c.self.invariant.ring.planned c.in-Ok-take.ensures.taken in
    let ready = subst TakesPackets (sym c.self.view_is) c.requires.ready in
    let blocks = ready.blocks in
    let gone = ap (λ (t : Taken). t.released) c.taken_into-taken.ensures in
    record {
      ring = c.in-Ok-take.ensures.stays.ringed;
      inside = inside_at g.B.BlockSink c.self.inside.plan c.self.inside.session _ _ _ _ _ c.in-Ok-take.step c.in-Ok.spot
          c.in-Ok-take.ensures.taken;
      few = λ e. (let counts = ap (λ (k : Kept). k.blocks) c.with-self-inside.ensures in
          omega (arith, few, blocks, gone, counts));
    }

pub invariant_of-self-in-Err-take : goal.invariant_of-self-in-Err-take
invariant_of-self-in-Err-take g c = record {
  ring = c.in-Err-take.ensures.stays.ringed;
  inside = c.self.invariant.inside;
  few = λ e. absurd cc;
}

pub returns-in-Ok-take-clause-answer : goal.returns-in-Ok-take-clause-answer
returns-in-Ok-take-clause-answer g c =
    let ready = subst TakesPackets (sym c.self.view_is) c.requires.ready in
    let x = heard c.args.rtp.now c.args.payload.now in
    let step = c.in-Ok-take.step in
    let t = c.taken_into-taken.result in
    subst (λ (o : View). Takes g.B.BlockSink o
    (accepted_by c.self.inside c.take.new.ring step t.segment c.with-self-inside.result) x
    c.args.out.now c.take.new.out t) c.self.view_is
    (takes g.B.BlockSink c.self.inside x c.args.out.now c.take.new.out c.in-Ok.spot c.take.new.ring step t c.with-self-inside.result
    (c.taken_into-taken.ensures
    ∙ ap (λ n. taken_as n step) c.segment_of.ensures) c.with-self-inside.ensures c.in-Ok.ensures.found
    c.in-Ok-take.ensures.taken c.in-Ok-take.ensures.stays.step ready.unspent)

pub returns-in-Err-take-clause-answer : goal.returns-in-Err-take-clause-answer
returns-in-Err-take-clause-answer g c =
    let x = heard c.args.rtp.now c.args.payload.now in
    subst (λ (o : View). Fails g.B.BlockSink o
    (spent_by c.self.inside c.take.new.ring c.self.inside.counts) x c.args.out.now c.take.new.out)
    c.self.view_is
    (fails g.B.BlockSink c.self.inside x c.args.out.now c.take.new.out c.in-Ok.spot c.take.new.ring _
    c.in-Ok.ensures.found c.in-Err-take.ensures.part c.in-Err-take.ensures.stays.step)
