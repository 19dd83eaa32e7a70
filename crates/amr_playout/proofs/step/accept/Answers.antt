use Rattle.std.proofs.Common.{◌≡◌, ℕ, ◌+◌, ◌-◌, ◌<◌, List, ◌++◌, length, refl, sym, ap, ◌∙◌, subst, arith, Option}
use Rattle.amr_frame.specs.Frames.{Frame}
use Rattle.amr_playout.proofs.Accepting.{IsMerged, IsPlaced, base_at, before_sent, before_shows, is_placed, last_under, low_base, next_inside, reached_small, sent_after, step_holds, step_up}
use Rattle.amr_playout.proofs.Plans.{facts}
use Rattle.amr_playout.proofs.Results.{on_err}
use Rattle.amr_playout.specs.Copied.{IsEdge, IsPast}
use Rattle.amr_playout.specs.Heard.{heard}
use Rattle.amr_playout.specs.Plans.{rules_in}
use Rattle.amr_playout.specs.Standing.{horizon_with, placed}
use Rattle.amr_playout.specs.Window.{at, base_of, held_of, window_of}
use Rattle.spec_session.specs.Copies.{copies_in, copies_of}
use Rattle.spec_session.specs.Packets.{Packet}
use Rattle.spec_session.specs.Session.{Accepted, Rules}
use Rattle.amr_playout.proofs.step.accept.Goals as goal

pub reach_to-requires-clause-last : goal.reach_to-requires-clause-last
reach_to-requires-clause-last g c = (
  (λ e. let first = c.requires.seat.first e in let after = c.last_of-last.ensures.after in omega (arith, first, after)),
  last_under c.args.plan.now c.args.place c.last_of-last.result (facts c.args.plan.now c.requires.ready.ready.ringed.planned) c.requires.seat.below c.last_of-last.ensures.fits,
)

pub returns-in_err-reached-clause-part : goal.returns-in_err-reached-clause-part
returns-in_err-reached-clause-part g c =
    let rules : Rules = rules_in c.args.plan.now in
    let before = c.args.before.now in
    let old : List (Option Frame) = held_of c.args.ring.now.items in
    let x : Packet = heard c.args.rtp.now c.args.payload.now in
    let last : ℕ = c.last_of-last.result in
    let l = c.last_of-last.ensures in
    let stands : IsPlaced rules before (placed before x c.args.place) c.args.place last (horizon_with before last) =
    is_placed c.args.plan.now before x c.args.place last (horizon_with before last) (facts c.args.plan.now c.requires.ready.ready.ringed.planned)
    l.fitting.some l.fitting.whole c.requires.ready.ready.inside c.requires.seat.above l.last l.fits l.after refl in
    on_err c.from_residual.result _ (λ acc holds.
    let got = c.in_err-reached.ensures.part (copies_of rules acc) (before_shows rules before old acc holds) in record {
      blocks = got.blocks;
      got = got.got;
      more_by = sent_after rules before old acc x c.args.place last (horizon_with before last) stands holds
          ∙ got.more_by ∙ ap (λ bs. bs ++ got.blocks) (sym (before_sent rules before old acc holds));
    })

pub overflow_add-base : goal.overflow_add-base
overflow_add-base g c =
    let s = reached_small c.args.plan.now c.args.before.now c.args.place c.last_of-last.result c.in_ok-reached.reached.horizon
    (facts c.args.plan.now c.requires.ready.ready.ringed.planned) c.requires.ready.ready.inside c.requires.seat.below c.last_of-last.ensures.fits c.in_ok-reached.ensures.slid.horizon in
    omega (arith, s)

pub overflow_sub-base : goal.overflow_sub-base
overflow_sub-base g c =
    let narrow = (facts c.args.plan.now c.requires.ready.ready.ringed.planned).narrow in
    let begun = c.in_ok-reached.ensures.slid.inside.0 in
    omega (arith, narrow, begun, c.from.ensures)

pub merge_all-merged-requires-clause-low : goal.merge_all-merged-requires-clause-low
merge_all-merged-requires-clause-low g c =
    low_base (rules_in c.args.plan.now) c.args.before.now c.args.place c.last_of-last.result
    c.in_ok-reached.reached.horizon c.from.result c.edge_of-edge.result
    c.from.ensures c.edge_of-edge.ensures c.in_ok-reached.ensures.slid.horizon c.last_of-last.ensures.fits

pub merge_all-merged-requires-clause-high : goal.merge_all-merged-requires-clause-high
merge_all-merged-requires-clause-high g c =
    let narrow = (facts c.args.plan.now c.requires.ready.ready.ringed.planned).narrow in
    let begun = c.in_ok-reached.ensures.slid.inside.0 in
    let up =
    step_up c.args.before.now c.last_of-last.result c.in_ok-reached.reached.horizon
    c.in_ok-reached.ensures.slid.horizon in
    subst (λ k. k < (c.in_ok-reached.reached.horizon + 1 - c.from.result) + c.args.plan.now.window)
    c.last_of-last.ensures.last
    (omega (arith, narrow, begun, up, c.from.ensures))

pub merge_all-merged-requires-clause-small : goal.merge_all-merged-requires-clause-small
merge_all-merged-requires-clause-small g c =
    let s = reached_small c.args.plan.now c.args.before.now c.args.place c.last_of-last.result c.in_ok-reached.reached.horizon
    (facts c.args.plan.now c.requires.ready.ready.ringed.planned) c.requires.ready.ready.inside c.requires.seat.below c.last_of-last.ensures.fits c.in_ok-reached.ensures.slid.horizon in
    omega (arith, s)

pub returns-clause-accepted : goal.returns-clause-accepted
returns-clause-accepted g c =
    let rules : Rules = rules_in c.args.plan.now in
    let before = c.args.before.now in
    let old : List (Option Frame) = held_of c.args.ring.now.items in
    let mid : List (Option Frame) = held_of c.reach_to.new.ring.items in
    let cells : List (Option Frame) = held_of c.merge_all-merged.new.ring.items in
    let x : Packet = heard c.args.rtp.now c.args.payload.now in
    let a : Accepted = placed before x c.args.place in
    let last : ℕ = c.last_of-last.result in
    let l = c.last_of-last.ensures in
    let r = c.in_ok-reached.reached in
    let slid = c.in_ok-reached.ensures.slid in
    let next = c.merge_all-merged.result.next in
    let step : IsPlaced rules before a c.args.place last r.horizon =
    is_placed c.args.plan.now before x c.args.place last r.horizon (facts c.args.plan.now c.requires.ready.ready.ringed.planned)
    l.fitting.some l.fitting.whole c.requires.ready.ready.inside c.requires.seat.above l.last l.fits l.after slid.horizon in
    let narrow = (facts c.args.plan.now c.requires.ready.ready.ringed.planned).narrow in
    let base : at (r.horizon + 1 - c.from.result) ≡ base_of rules (at r.horizon) = base_at rules r.horizon c.from.result c.from.ensures narrow slid.inside.0 in
    let past : IsPast rules x.value c.args.place c.edge_of-edge.result a = record {
      value = refl;
      here = refl;
      past = subst (λ e. IsEdge rules a (at e)) (sym c.edge_of-edge.ensures) step.edge;
    } in
    let taken = c.merge_all-merged.ensures.merged a past in
    let merge : IsMerged rules mid cells a r.horizon r.next next = record {
      merged =
          λ cs is. taken.merged cs (is ∙ ap (window_of rules cs) (sym base))
          ∙ ap (window_of rules (cs ++ copies_in rules a)) base;
      next_is = taken.least_is;
    } in
    let inside =
    next_inside rules before a c.args.place last r.horizon r.next next step slid.inside.0 slid.inside.1
    slid.inside.2 taken.least_is in
    record {
      holds = λ acc holds.
          step_holds rules before old mid cells acc x c.args.place last r.horizon r.next next c.start_of-source.result.0
          c.start_of-source.result.1
          step merge (slid.shows (copies_of rules acc) (before_shows rules before old acc holds))
          c.start_of-source.ensures.fresh c.start_of-source.ensures.going holds;
      out = λ acc holds.
          (let got = slid.out (copies_of rules acc) (before_shows rules before old acc holds) in record {
            blocks = got.blocks;
            got = got.got;
            more_by = sent_after rules before old acc x c.args.place last r.horizon step holds
                ∙ got.more_by ∙ ap (λ bs. bs ++ got.blocks) (sym (before_sent rules before old acc holds));
          });
      counted = λ acc holds.
          (let count = slid.counted (copies_of rules acc) (before_shows rules before old acc holds) in
          let after = ap length (sent_after rules before old acc x c.args.place last r.horizon step holds) in
          let sent = ap length (before_sent rules before old acc holds) in
          omega (arith, count, after, sent));
      copies = λ acc holds.
          (let shows = slid.shows (copies_of rules acc) (before_shows rules before old acc holds) in
          let count =
          taken.counted (copies_of rules acc)
          (shows.window ∙ ap (window_of rules (copies_of rules acc)) (sym base)) in
          omega (arith, count));
      late = c.late_blocks-late.ensures.late a past;
      inside = (
        (slid.inside.0, inside.0, inside.1),
        reached_small c.args.plan.now c.args.before.now c.args.place c.last_of-last.result c.in_ok-reached.reached.horizon
            (facts c.args.plan.now c.requires.ready.ready.ringed.planned) c.requires.ready.ready.inside c.requires.seat.below c.last_of-last.ensures.fits c.in_ok-reached.ensures.slid.horizon,
      );
      horizon = slid.horizon ∙ ap (horizon_with before) l.last;
      fits = subst (λ k. k < c.args.place + c.args.plan.now.window) l.last l.fits;
      rise = slid.rise;
      none = slid.none;
      few = (
        (let few = c.late_blocks-late.ensures.few in let most = l.fitting.few in omega (arith, few, most)),
        (let few = c.merge_all-merged.ensures.few in let most = l.fitting.few in omega (arith, few, most)),
      );
    }
