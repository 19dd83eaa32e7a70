use Rattle.std.proofs.Common.{◌≡◌, ℕ, ◌+◌, ◌*◌, ◌-◌, ◌≤◌, ◌<◌, ◌/◌, ◌%◌, ◌++◌, [], length, arith, sym, ap, ◌∙◌, subst, inl, inr}
use Rattle.std.proofs.lemmas.Nat.{mul-le}
use Rattle.amr_frame.specs.Cells.{frame_of}
use Rattle.amr_frame.specs.declared.profile.Profile.{Profile}
use Rattle.amr_frame.specs.Frames.{Frame}
use Rattle.amr_playout.proofs.Plans.{facts}
use Rattle.amr_playout.proofs.Taking.{block_of, frame_more, held_frame, taken_more, taken_none}
use Rattle.amr_playout.specs.Copied.{TakesCopies, copies_to, newly}
use Rattle.amr_playout.specs.Plans.{rules_in}
use Rattle.amr_playout.specs.Window.{at}
use Rattle.amr_toc.specs.Viewed.{viewed}
use Rattle.spec_payload.specs.Values.{Value}
use Rattle.spec_session.specs.Session.{Rules}
use Rattle.amr_playout.proofs.merge.merge_walked.Goals as goal

pub loop-index-init : goal.loop-index-init
loop-index-init g c = record {
  merged = λ a past. taken_none c.args.plan.now c.args.base c.args.ring.now _ c.requires.ready.ring;
  few = omega arith;
  stands = c.walk-walk.ensures;
  ring = c.requires.ready.ring;
}

pub loop-index-preserved : goal.loop-index-preserved
loop-index-preserved g c =
    let rules : Rules = rules_in c.args.plan.now in
    let v : Value = viewed c.args.payload.now in
    let n : ℕ = rules.channels in
    let i : ℕ = c.loop-index.index in
    let f : Frame = frame_of c.next_frame-frame.result in
    let block = c.share_of.ensures in
    let stride = c.stride-stride.ensures in
    let channel = c.channel_of-channel.ensures in
    let same : newly (at c.args.edge) (at (c.args.place + c.share_of.result * c.stride-stride.result))
    c.channel_of-channel.result f ≡ newly (at c.args.edge) (at (c.args.place + (i / n) * v.stride)) (i % n) f =
    (λ j. newly (at c.args.edge) (at (c.args.place + block j * stride j)) (channel j) f) in
    let inv = c.loop-index.invariant in
    let step = c.merge_past-merged.ensures in
    record {
      merged = λ a past.
          (let grown : copies_to rules a i ++ newly (at c.args.edge)
          (at (c.args.place + c.share_of.result * c.stride-stride.result)) c.channel_of-channel.result f ≡ copies_to
          rules a (i + 1) =
          ap (λ ds. copies_to rules a i ++ ds) same
          ∙ frame_more rules a v (at c.args.edge) c.args.place i f [] past.value past.here past.past
          (held_frame c.next_frame-frame.result _ c.next_frame-frame.ensures.frame) in
          subst (TakesCopies c.args.plan.now c.args.base c.args.ring.now c.merge_past-merged.new.ring _
          c.merge_past-merged.result) grown
          (taken_more c.args.plan.now c.args.base c.args.ring.now c.loop-index.ring c.merge_past-merged.new.ring _
          c.loop-index.merged c.merge_past-merged.result _ _ (inv.merged a past) step.merged));
      few = (let more = step.few in let so_far = inv.few in omega arith);
      stands = c.next_frame-frame.ensures.stands;
      ring = step.merged.ringed;
    }

pub merge_past-merged-requires-clause-within : goal.merge_past-merged-requires-clause-within
merge_past-merged-requires-clause-within g c =
    let v : Value = viewed c.args.payload.now in
    let n : ℕ = c.args.plan.now.profile.channels in
    let i : ℕ = c.loop-index.index in
    let s : ℕ = c.stride-stride.result in
    let count = c.frames-index-end.ensures.frames in
    let stride = c.stride-stride.ensures in
    let t = c.loop-index-test.true in
    let lt : i < length v.frames = omega (arith, t, count) in
    let some : 0 < n = (facts c.args.plan.now c.requires.ready.ring.planned).some in
    let low : i / n ≤ length v.frames / n - 1 = block_of n (length v.frames) i some lt c.requires.ready.fitting.whole in
    let le : (i / n) * s ≤ (length v.frames / n - 1) * s =
    mul-le (i / n) s (length v.frames / n - 1) s low (omega arith) in
    let same : (length v.frames / n - 1) * s ≡ (length v.frames / n - 1) * v.stride =
    ap (λ k. (length v.frames / n - 1) * k) stride in
    let block : c.share_of.result * s ≡ (i / n) * s = ap (λ k. k * s) c.share_of.ensures in (
      (λ past. elim c.requires.ready.low [ inl here ↦ omega (arith, here) | inr old ↦ omega (arith, old, past) ]),
      omega (arith, c.requires.ready.high, le, same, block),
    )

pub merge_past-merged-requires-clause-few : goal.merge_past-merged-requires-clause-few
merge_past-merged-requires-clause-few g c =
    let few = c.loop-index.invariant.few in
    let t = c.loop-index-test.true in
    let count = c.frames-index-end.ensures.frames in
    let most = c.requires.ready.fitting.few in
    omega (arith, few, t, count, most)

pub walk-walk-requires : goal.walk-walk-requires
walk-walk-requires g c = (
  omega (arith, c.requires.rows.1),
  λ sorted. c.requires.rows.0 (ap (λ (p : Profile). p.sorting) (sym c.requires.ready.read.format) ∙ sorted),
)

pub next_frame-frame-requires : goal.next_frame-frame-requires
next_frame-frame-requires g c = (
  omega (arith, c.requires.rows.1),
  (omega (arith, c.loop-index-test.true, c.frames-index-end.ensures.frames), c.loop-index.invariant.stands),
)

pub returns : goal.returns
returns g c =
    let t = c.loop-index-test.false in
    let e = c.loop-index.auto.index-end in
    let count = c.frames-index-end.ensures.frames in
    let inv = c.loop-index.invariant in
    record {
      merged = λ a past.
          (let size : length (viewed c.args.payload.now).frames ≡ length a.packet.value.frames =
          ap (λ (w : Value). length w.frames) (sym past.value) in
          let end : c.loop-index.index ≡ length a.packet.value.frames = omega (arith, size, t, e, count) in
          subst (λ k. TakesCopies c.args.plan.now c.args.base c.args.ring.now c.loop-index.ring
          (record { next = c.args.next; copies = 0 }) c.loop-index.merged (copies_to (rules_in c.args.plan.now) a k)) end
          (inv.merged a past));
      few = (let few = inv.few in omega arith);
      ring = inv.ring;
    }
