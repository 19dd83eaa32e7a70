use Rattle.std.proofs.Common.{◌≡◌, ℕ, ◌+◌, ◌++◌, List, length, refl, sym, ap, ◌∙◌, subst, arith, Option, Some}
use Rattle.amr_frame.specs.Frames.{Frame}
use Rattle.amr_playout.proofs.Accepting.{before_sent, before_shows, rest_is}
use Rattle.amr_playout.proofs.Ended.{ended}
use Rattle.amr_playout.proofs.Results.{on_err}
use Rattle.amr_playout.specs.Plans.{rules_in}
use Rattle.amr_playout.specs.Shown.{Shows}
use Rattle.amr_playout.specs.Standing.{Holds, out_at}
use Rattle.amr_playout.specs.Window.{at, held_of}
use Rattle.amr_playout.specs.declared.session.Begun.{Begun}
use Rattle.spec_session.specs.Copies.{copies_of}
use Rattle.spec_session.specs.Release.{released_of}
use Rattle.spec_session.specs.Session.{Accepted, Rules}
use Rattle.amr_playout.proofs.window.restart.Goals as goal

-- the rest, to the end that the code computes
rest_to : (rules : Rules) (s : Begun) (cells : List (Option Frame)) (acc : List Accepted) (end : ℕ)
    → end ≡ s.horizon + rules.window
    → Holds rules (Some s) cells acc → released_of rules (copies_of rules acc) ≡ out_at rules end (copies_of rules acc)
rest_to rules s cells acc end is holds =
    rest_is rules s cells acc holds ∙ ap (λ h. out_at rules h (copies_of rules acc)) (sym is)

pub returns-in_err-slid-in-Some-clause-part : goal.returns-in_err-slid-in-Some-clause-part
returns-in_err-slid-in-Some-clause-part g c =
    let rules : Rules = rules_in c.args.plan.now in
    let old : List (Option Frame) = held_of c.args.ring.now.items in
    let s : Begun = c.in-Some.session in
    on_err c.from_residual.result _ (λ acc holds.
    let kept : Holds rules (Some s) old acc = subst (λ b. Holds rules b old acc) c.in-Some.is holds in
    let got =
    c.in_err-slid-in-Some.ensures.part (copies_of rules acc) (before_shows rules (Some s) old acc kept) in record {
      blocks = got.blocks;
      got = got.got;
      more_by =
          rest_to rules s old acc _ (ap (λ w. s.horizon + w) c.from.ensures) kept ∙ got.more_by
          ∙ ap (λ bs. bs ++ got.blocks) (sym (before_sent rules (Some s) old acc kept));
    })

pub returns-in_ok-slid-in-Some-clause-over : goal.returns-in_ok-slid-in-Some-clause-over
returns-in_ok-slid-in-Some-clause-over g c =
    let rules : Rules = rules_in c.args.plan.now in
    let old : List (Option Frame) = held_of c.args.ring.now.items in
    let s : Begun = c.in-Some.session in
    let r = c.in_ok-slid-in-Some.slid in
    let slid = c.in_ok-slid-in-Some.ensures.slid in
    let end : r.horizon ≡ s.horizon + rules.window = slid.horizon ∙ ap (λ w. s.horizon + w) c.from.ensures in
    let kept : (acc : List Accepted) → Holds rules c.args.before.now old acc → Holds rules (Some s) old acc =
    λ acc holds. subst (λ b. Holds rules b old acc) c.in-Some.is holds in
    record {
      out = λ acc holds.
          (let got = slid.out (copies_of rules acc) (before_shows rules (Some s) old acc (kept acc holds)) in record {
            blocks = got.blocks;
            got = got.got;
            more_by = rest_to rules s old acc r.horizon end (kept acc holds) ∙ got.more_by
                ∙ ap (λ bs. bs ++ got.blocks) (sym (before_sent rules (Some s) old acc (kept acc holds)));
          });
      counted = λ acc holds.
          (let count = slid.counted (copies_of rules acc) (before_shows rules (Some s) old acc (kept acc holds)) in
          let all = ap length (rest_to rules s old acc r.horizon end (kept acc holds)) in
          let sent = ap length (before_sent rules (Some s) old acc (kept acc holds)) in
          omega (arith, count, all, sent));
      over = λ acc holds.
          ended rules s r.next rules.window old (held_of c.slide.new.ring.items) acc refl (kept acc holds)
          (subst (λ h. Shows rules (at h) (at r.next) (held_of c.slide.new.ring.items) (copies_of rules acc)) end
          (slid.shows (copies_of rules acc) (before_shows rules (Some s) old acc (kept acc holds))));
      few = (let rise = slid.rise s refl in omega (arith, rise, end));
    }
