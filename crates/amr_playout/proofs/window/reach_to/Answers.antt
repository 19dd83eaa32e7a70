use Rattle.std.proofs.Common.{◌≡◌, refl, sym, ap, ◌∙◌, arith, length, append-nil, [], List, None, Some}
use Rattle.amr_playout.proofs.Accepting.{none_goes, none_shows}
use Rattle.amr_playout.proofs.Plans.{facts}
use Rattle.amr_playout.specs.Plans.{rules_in}
use Rattle.amr_playout.specs.Standing.{ShowsBefore, horizon_with, out_at, out_before}
use Rattle.amr_playout.specs.Window.{held_of}
use Rattle.spec_session.specs.Copies.{Copy}
use Rattle.amr_playout.proofs.window.reach_to.Goals as goal

pub returns-in-None-clause-slid : goal.returns-in-None-clause-slid
returns-in-None-clause-slid g c =
    let rules = rules_in c.args.plan.now in
    let before = c.args.before.now in
    let old = held_of c.args.ring.now.items in
    let wide = (facts c.args.plan.now c.requires.ready.ringed.planned).wide in
    let first = c.requires.last.0 c.in-None.is in
    let same : (cs : List Copy) → ShowsBefore rules before old cs
    → out_at rules c.args.last cs ≡ out_before rules before cs =
    λ cs shows. none_goes rules before old cs c.args.last c.in-None.is wide shows in
    record {
      horizon = sym (ap (λ b. horizon_with b c.args.last) c.in-None.is);
      inside = (first, omega (arith, wide), omega arith);
      shows = λ cs shows. none_shows rules before old cs c.args.last c.in-None.is wide shows;
      out =
          λ cs shows. record {
            blocks = [];
            got = refl;
            more_by = same cs shows
                ∙ sym (append-nil (out_before rules before cs));
          };
      counted = λ cs shows. (let e = ap length (same cs shows) in omega (arith, e));
      rise = λ s e. (let no_session : None ≡ Some s = sym c.in-None.is ∙ e in absurd cc);
      none = λ e. refl;
    }
