use Rattle.std.proofs.Common.{◌≡◌, ◌+◌, ◌≤◌, arith, refl, subst}
use Rattle.amr_playout.proofs.Plans.{facts}
use Rattle.amr_playout.proofs.Results.{on_err}
use Rattle.amr_playout.proofs.Sliding.{IsSlide, slide_count, slide_out, slide_shows, slides_by}
use Rattle.amr_playout.specs.Plans.{rules_in}
use Rattle.amr_playout.specs.Window.{held_of}
use Rattle.amr_playout.specs.declared.session.Begun.{Begun}
use Rattle.spec_session.specs.Session.{Rules}
use Rattle.amr_playout.proofs.window.slide.Goals as goal

pub returns-in_err-advance-clause-part : goal.returns-in_err-advance-clause-part
returns-in_err-advance-clause-part g c =
    let s = c.args.session.now in
    let slides =
    slides_by c.args.plan.now s c.args.last c.from-window.result c.requires.ready.ringed.planned
    c.requires.ready.inside c.requires.last.0 c.from-window.ensures in
    on_err c.from_residual.result _ (λ cs shows. record {
      blocks = _;
      got = c.in_err-advance.ensures.part;
      more_by =
          slide_out (rules_in c.args.plan.now) s.horizon s.next c.args.last c.from-window.result
          c.args.plan.now.profile.channels (held_of c.args.ring.now.items) cs slides shows.0 shows.1;
    })

pub returns-clause-slid : goal.returns-clause-slid
returns-clause-slid g c =
    let rules : Rules = rules_in c.args.plan.now in
    let s = c.args.session.now in
    let old = held_of c.args.ring.now.items in
    let w = c.from-window.result in
    let n = c.args.plan.now.profile.channels in
    let inside = c.requires.ready.inside.0 in
    let begun = inside.0 in let low = inside.1 in let high = inside.2 in
    let up = c.requires.last.0 in
    let f = facts c.args.plan.now c.requires.ready.ringed.planned in
    let wide = f.wide in let narrow = f.narrow in
    let slides : IsSlide rules s.horizon s.next c.args.last w n =
    slides_by c.args.plan.now s c.args.last w c.requires.ready.ringed.planned c.requires.ready.inside up
    c.from-window.ensures in
    record {
      horizon = refl;
      inside = (
        omega (arith, begun, up),
        omega (arith, c.later.ensures, c.from-window.ensures, wide, narrow, begun, up),
        omega (arith, c.later.ensures, c.from-window.ensures, wide, narrow, begun, up, high),
      );
      shows = λ cs shows.
          slide_shows rules s.horizon s.next c.later.result c.args.last w n old (held_of c.advance.new.ring.items) cs
          slides shows.0
          c.later.ensures c.in_ok-advance.ensures.items shows.1;
      out = λ cs shows. record {
        blocks = _;
        got = c.in_ok-advance.ensures.out;
        more_by = slide_out rules s.horizon s.next c.args.last w n old cs slides shows.0 shows.1;
      };
      counted = λ cs shows.
          (let count = slide_count rules s.horizon s.next c.args.last w n old cs slides shows.0 shows.1 in
          omega (arith, count, c.saturating_sub.ensures));
      rise = λ t e.
          subst (λ (z : Begun). z.horizon + c.saturating_sub.result ≤ c.args.last) (let is : s ≡ t = cc in is)
          (omega (arith, c.saturating_sub.ensures, up));
      none = λ e. absurd cc;
    }
