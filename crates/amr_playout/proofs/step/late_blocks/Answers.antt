use Rattle.std.proofs.Common.{◌≡◌, ℕ, ◌+◌, ◌*◌, ◌/◌, arith, length, cond, sym, ap, ◌∙◌}
use Rattle.std.specs.Prelude.{int_lt, not}
use Rattle.amr_playout.proofs.Late.{count_more, count_to}
use Rattle.amr_playout.proofs.Taking.{place_up, spot_at}
use Rattle.amr_playout.specs.Plans.{rules_in}
use Rattle.amr_playout.specs.Window.{at}
use Rattle.amr_toc.specs.Viewed.{viewed}
use Rattle.spec_payload.specs.Values.{Value}
use Rattle.spec_session.specs.Copies.{in_time}
use Rattle.spec_session.specs.Session.{Rules, block_place, blocks_in}
use Rattle.amr_playout.proofs.step.late_blocks.Goals as goal

pub loop-block-preserved : goal.loop-block-preserved
loop-block-preserved c =
    let rules : Rules = rules_in c.args.plan.now in
    let v : Value = viewed c.args.payload.now in
    let k : ℕ = c.loop-block.block in
    record {
      late = λ a past.
          (let so_far = c.loop-block.invariant.late a past in
          let place : at (c.args.place + k * c.from-stride.result) ≡ block_place a k =
          ap (λ s. at (c.args.place + k * s)) (c.from-stride.ensures ∙ c.stride.ensures)
          ∙ spot_at a v c.args.place k past.value past.here in
          let one : c.late_one-late.result ≡ cond (not (in_time rules a (block_place a k))) 1 0 =
          c.late_one-late.ensures.late ∙ ap (λ p. cond (not (int_lt (at c.args.edge) p)) 1 0) place
          ∙ ap (λ b. cond (not b) 1 0) (sym (past.past (block_place a k) (place_up a k))) in
          let more = count_more (λ j. not (in_time rules a (block_place a j))) k in
          omega (arith, so_far, one, more));
      few = (let f = c.loop-block.invariant.few in let o = c.late_one-late.ensures.few in omega arith);
    }

pub returns : goal.returns
returns c = record {
  late = λ a past.
      (let rules : Rules = rules_in c.args.plan.now in
      let v : Value = viewed c.args.payload.now in
      let t = c.loop-block-test.false in
      let e = c.loop-block.auto.block-end in
      let end : c.loop-block.block ≡ c.share_of-blocks.result = omega arith in
      let count : c.share_of-blocks.result ≡ blocks_in rules a.packet.value =
      c.share_of-blocks.ensures ∙ ap (λ n. n / c.from.result) c.frames.ensures.frames
      ∙ ap (λ n. length v.frames / n) c.from.ensures ∙ ap (blocks_in rules) (sym past.value) in
      c.loop-block.invariant.late a past ∙ ap (count_to (λ k. not (in_time rules a (block_place a k)))) (end ∙ count));
  few =
      (let t = c.loop-block-test.false in let f = c.loop-block.invariant.few in let e = c.loop-block.auto.block-end in let n = c.frames.ensures.frames in omega (arith, f, n));
}
