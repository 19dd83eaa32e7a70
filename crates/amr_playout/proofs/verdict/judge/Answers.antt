use Rattle.std.proofs.Common.{rules, to_z, of_z, ◌≡◌, true, false, nat_eq, sym, ap, ◌∙◌, arith}
use Rattle.std.proofs.lemmas.Bool.Decides.{nat_tests}
use Rattle.std.specs.Int.{w64}
use Rattle.amr_frame.specs.Tables.{ticks}
use Rattle.amr_playout.proofs.Judging.{far_ahead, off_grid, other_source, same_number, seated}
use Rattle.amr_playout.specs.Heard.{heard}
use Rattle.amr_playout.specs.Plans.{rules_in}
use Rattle.amr_playout.specs.Window.{at}
use Rattle.spec_session.specs.Places.{apart, place_near}
use Rattle.spec_session.specs.Session.{OffGrid, OtherSource}
use Rattle.amr_playout.proofs.verdict.judge.Goals as goal

pub returns-then-got-session-clause-declined : goal.returns-then-got-session-clause-declined
returns-then-got-session-clause-declined c = λ cells acc holds.
    let x = heard c.args.rtp.now c.args.payload.now in
    let e : nat_eq x.ssrc c.args.session.now.source ≡ false =
    grind (arith, nat_tests, c.ssrc-got.ensures, c.if-got-session.true) in
    other_source (rules_in c.args.plan.now) c.args.session.now x cells acc holds e
    ∙ ap (OtherSource c.args.session.now.source) (sym c.ssrc-got.ensures)

pub returns-in-Err-clause-declined : goal.returns-in-Err-clause-declined
returns-in-Err-clause-declined c = λ cells acc holds.
    let x = heard c.args.rtp.now c.args.payload.now in
    let s = c.args.session.now in
    let e : nat_eq x.ssrc s.source ≡ true =
    same_number c.ssrc-got.result x.ssrc s.source c.ssrc-got.ensures c.if-got-session.false in
    let k = ticks c.args.plan.now.profile.codec in
    let back : to_z w64 (of_z w64 c.in-Err.delta) ≡ c.in-Err.delta = search rules in
    off_grid (rules_in c.args.plan.now) s x cells acc holds c.in-Err.delta e
    (ap (λ t. place_near k s.origin t (at s.horizon)) (sym c.timestamp.ensures) ∙ c.in-Err.ensures.off.0)
    (ap (λ t. apart k s.origin t (at s.horizon)) (sym c.timestamp.ensures) ∙ c.in-Err.ensures.off.1)
    ∙ ap OffGrid (sym back)

pub returns-then-session-from-clause-declined : goal.returns-then-session-from-clause-declined
returns-then-session-from-clause-declined c = λ cells acc holds.
    let x = heard c.args.rtp.now c.args.payload.now in
    let s = c.args.session.now in
    let e : nat_eq x.ssrc s.source ≡ true =
    same_number c.ssrc-got.result x.ssrc s.source c.ssrc-got.ensures c.if-got-session.false in
    let k = ticks c.args.plan.now.profile.codec in
    let back : to_z w64 (of_z w64 c.shown.result) ≡ c.shown.result = search rules in
    let back_last : to_z w64 (of_z w64 c.shown-then-session-from.result) ≡ c.shown-then-session-from.result = search
    rules in
    far_ahead (rules_in c.args.plan.now) s x cells acc holds c.in-Ok.place c.last_of-last.result _ _ e
    (ap (λ t. place_near k s.origin t (at s.horizon)) (sym c.timestamp.ensures) ∙ c.in-Ok.ensures.place)
    c.last_of-last.ensures.last (omega (arith, c.from.ensures, c.if-session-from.true)) (back ∙ c.shown.ensures)
    (back_last ∙ c.shown-then-session-from.ensures)

pub returns-clause-seated : goal.returns-clause-seated
returns-clause-seated c = λ cells acc holds.
    let x = heard c.args.rtp.now c.args.payload.now in
    let s = c.args.session.now in
    let e : nat_eq x.ssrc s.source ≡ true =
    same_number c.ssrc-got.result x.ssrc s.source c.ssrc-got.ensures c.if-got-session.false in
    let k = ticks c.args.plan.now.profile.codec in
    seated (rules_in c.args.plan.now) s x cells acc holds c.in-Ok.place c.last_of-last.result e
    (ap (λ t. place_near k s.origin t (at s.horizon)) (sym c.timestamp.ensures) ∙ c.in-Ok.ensures.place)
    c.last_of-last.ensures.last (omega (arith, c.from.ensures, c.if-session-from.false))

pub returns-clause-near : goal.returns-clause-near
returns-clause-near c =
    let near = c.in-Ok.ensures.near in let low = near.0 in let high = near.1 in let begun = c.requires.ready.inside.0.0 in
    (omega (arith, low, begun), omega (arith, high))
