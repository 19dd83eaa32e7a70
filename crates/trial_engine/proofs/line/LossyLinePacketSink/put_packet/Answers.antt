use Rattle.std.proofs.Common.{[], ◌∷◌, ◌∙◌, ap, arith, refl}
use Rattle.spec_trial.specs.Delivery.{Held, Lost, Once, Twice, fate_of}
use Rattle.trial_engine.proofs.Lined.{held_job, held_shows, passed_shows, put_one}
use Rattle.trial_engine.proofs.line.LossyLinePacketSink.put_packet.Goals as goal

pub returns-in-Lost-clause-whole : goal.returns-in-Lost-clause-whole
returns-in-Lost-clause-whole c job seed xs on =
    put_one job seed c.args.self.now _ xs c.args.packet.now Lost on refl c.draw.ensures.state refl refl
    (c.in-Lost.ensures ∙ ap fate_of c.draw.ensures.drawn)
    (λ l s. record {
      recorded = s.recorded;
      waits = s.waits;
      lost_is = let old = s.lost_is in omega (arith, old);
      doubled_is = s.doubled_is;
      held_is = s.held_is;
    })

pub returns-in-Twice-clause-whole : goal.returns-in-Twice-clause-whole
returns-in-Twice-clause-whole c job seed xs on =
    let x = c.args.packet.now in
    put_one job seed c.args.self.now _ xs x Twice on c.pass_twice.ensures.delivers.job c.draw.ensures.state refl refl
    (c.in-Twice.ensures ∙ ap fate_of c.draw.ensures.drawn)
    (λ l s. passed_shows c.args.self.now _ l (x ∷ x ∷ []) _ _ _ s c.pass_twice.ensures s.lost_is
    (let old = s.doubled_is in omega (arith, old)) s.held_is)

pub returns-in-Held-clause-whole : goal.returns-in-Held-clause-whole
returns-in-Held-clause-whole c job seed xs on =
    let x = c.args.packet.now in
    let old = c.args.self.now in
    let held = c.hold_or_pass in
    put_one job seed old _ xs x Held on
    (held_job old.waiting held.new.waiting old.tape held.new.tape x held.result held.ensures) c.draw.ensures.state refl refl
    (c.in-Held.ensures ∙ ap fate_of c.draw.ensures.drawn)
    (λ l s. held_shows old _ l.delivered l.waiting l.lost l.doubled l.held x held.result s held.ensures refl refl refl)

pub returns-in-Once-clause-whole : goal.returns-in-Once-clause-whole
returns-in-Once-clause-whole c job seed xs on =
    let x = c.args.packet.now in
    put_one job seed c.args.self.now _ xs x Once on c.pass_once.ensures.delivers.job c.draw.ensures.state refl refl
    (c.in-Once.ensures ∙ ap fate_of c.draw.ensures.drawn)
    (λ l s. passed_shows c.args.self.now _ l (x ∷ []) _ _ _ s c.pass_once.ensures s.lost_is s.doubled_is s.held_is)
