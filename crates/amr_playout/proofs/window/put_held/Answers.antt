use Rattle.std.proofs.Common.{◌≡◌, ℕ, ◌+◌, ◌-◌, ◌≤◌, List, length, map, take, arith, ap, subst, sym, ◌∙◌, refl, Option}
use Rattle.amr_frame.proofs.BlocksLemmas.{GotBlocks-more, GotPrefix-part}
use Rattle.amr_frame.specs.Blocks.{GotBlocks, GotPrefix}
use Rattle.amr_frame.specs.Frames.{Frame}
use Rattle.amr_playout.proofs.Results.{on_err}
use Rattle.amr_playout.proofs.Spans.{row_out, rows_more, rows_none, rows_rest, slid_0, slid_on}
use Rattle.amr_playout.proofs.CellLists.{length-held}
use Rattle.amr_playout.proofs.CellLists.{still_full}
use Rattle.amr_playout.specs.Ring.{IsFull}
use Rattle.amr_playout.specs.Window.{held_of, row, rows}
use Rattle.spec_session.specs.Quality.{stored}
use Rattle.amr_playout.proofs.window.put_held.Goals as goal
use Rattle.amr_playout.proofs.window.put_held.Goals.{then-at-skip, else-at-skip+in_ok-put_front}

pub loop-at-init : goal.loop-at-init
loop-at-init g c =
    let xs : List (Option Frame) = held_of c.args.ring.now.items in
    let none : 0 - c.args.skip ≡ 0 = omega arith in
    record {
      full = c.requires.ready.full;
      capacity = refl;
      items = slid_0 xs c.args.channels;
      got =
          subst (λ n. GotBlocks g.B.BlockSink.whole c.args.out.now (rows c.args.channels xs c.args.skip n)
          c.args.out.now) (sym none) refl;
      ready = c.requires.ready.takes.ready;
      codec = c.requires.ready.takes.codec;
      channels = c.requires.ready.takes.channels;
      faults = refl;
      same = g.met.B.BlockSink.reflexive c.args.out.now;
    }

pub returns-in_err-put_front-clause-part : goal.returns-in_err-put_front-clause-part
returns-in_err-put_front-clause-part g c =
    let xs : List (Option Frame) = held_of c.args.ring.now.items in
    let n : ℕ = c.args.channels in
    let i : ℕ = c.loop-at.at in
    let le : n ≤ length xs =
    omega (arith, length-held c.args.ring.now.items, c.requires.ready.room, c.requires.ready.full.full) in
    let past : c.args.skip ≤ i = omega (arith, c.if-at-skip.false) in
    let block : map stored (take n (held_of c.loop-at.ring.items)) ≡ row n xs i =
    row_out xs (held_of c.loop-at.ring.items) i n le c.loop-at.invariant.items in
    let rest = rows_rest n xs c.args.skip i c.args.count past c.loop-at-test.true in
    on_err c.from_residual.result _
    (subst (λ bs. GotPrefix g.B.BlockSink.whole g.B.BlockSink.part c.args.out.now bs c.put_front.new.out) (sym rest.1)
    (GotPrefix-part g.B.BlockSink.whole g.B.BlockSink.part c.args.out.now (rows n xs c.args.skip (i - c.args.skip))
    c.loop-at.out (row n xs i) rest.0 c.put_front.new.out
    c.loop-at.invariant.got
    (subst (λ b. g.B.BlockSink.part c.loop-at.out b c.put_front.new.out) block
    c.in_err-put_front.ensures.put.part)))

pub loop-at-preserved : goal.loop-at-preserved
loop-at-preserved g c =
    let xs : List (Option Frame) = held_of c.args.ring.now.items in
    let n : ℕ = c.args.channels in
    let i : ℕ = c.loop-at.at in
    let le : n ≤ length xs =
    omega (arith, length-held c.args.ring.now.items, c.requires.ready.room, c.requires.ready.full.full) in
    let block : map stored (take n (held_of c.loop-at.ring.items)) ≡ row n xs i =
    row_out xs (held_of c.loop-at.ring.items) i n le c.loop-at.invariant.items in
    let moved = slid_on xs (held_of c.loop-at.ring.items) i n le c.loop-at.invariant.items in
    elim c.if-at-skip.branch [
      | then-at-skip w ↦ record {
        full =
            subst (IsFull c.args.codec) (sym w.ring-is)
            (still_full c.args.codec _ _ c.loop-at.invariant.full w.push_absent.ensures.ring);
        capacity = ap (λ b. b.capacity) w.ring-is ∙ w.push_absent.ensures.ring.capacity ∙ c.loop-at.invariant.capacity;
        items = ap (λ b. held_of b.items) w.ring-is ∙ w.push_absent.ensures.items ∙ moved;
        got =
            subst (λ o. GotBlocks g.B.BlockSink.whole c.args.out.now (rows n xs c.args.skip (i + 1 - c.args.skip)) o)
            (sym w.out-is)
            (subst (λ bs. GotBlocks g.B.BlockSink.whole c.args.out.now bs c.loop-at.out)
            (sym (rows_none n xs c.args.skip i w.if-at-skip.true)) c.loop-at.invariant.got);
        ready = ap g.B.BlockSink.ready w.out-is ∙ c.loop-at.invariant.ready;
        codec = ap g.B.BlockSink.codec w.out-is ∙ c.loop-at.invariant.codec;
        channels = ap g.B.BlockSink.channels w.out-is ∙ c.loop-at.invariant.channels;
        faults = ap g.B.BlockSink.faults w.out-is ∙ c.loop-at.invariant.faults;
        same = subst (g.B.BlockSink.same c.args.out.now) (sym w.out-is) c.loop-at.invariant.same;
      }
      | else-at-skip+in_ok-put_front w ↦
          let past : c.args.skip ≤ i = omega (arith, w.if-at-skip.false) in
          record {
            full =
                subst (IsFull c.args.codec) (sym w.ring-is)
                (still_full c.args.codec _ _ c.loop-at.invariant.full w.put_front.ensures.ring);
            capacity =
                ap (λ b. b.capacity) w.ring-is ∙ w.put_front.ensures.ring.capacity ∙ c.loop-at.invariant.capacity;
            items = ap (λ b. held_of b.items) w.ring-is ∙ w.in_ok-put_front.ensures.items ∙ moved;
            got =
                subst (λ o. GotBlocks g.B.BlockSink.whole c.args.out.now (rows n xs c.args.skip (i + 1 - c.args.skip))
                o) (sym w.out-is)
                (subst (λ bs. GotBlocks g.B.BlockSink.whole c.args.out.now bs w.put_front.new.out)
                (sym (rows_more n xs c.args.skip i past))
                (GotBlocks-more g.B.BlockSink.whole c.args.out.now (rows n xs c.args.skip (i - c.args.skip))
                c.loop-at.out (row n xs i) w.put_front.new.out
                c.loop-at.invariant.got
                (subst (λ b. g.B.BlockSink.whole c.loop-at.out b w.put_front.new.out) block
                w.in_ok-put_front.ensures.put.whole)));
            ready = ap g.B.BlockSink.ready w.out-is ∙ w.in_ok-put_front.ensures.put.step.ready;
            codec =
                ap g.B.BlockSink.codec w.out-is ∙ w.in_ok-put_front.ensures.put.step.kept.0 ∙ c.loop-at.invariant.codec;
            channels =
                ap g.B.BlockSink.channels w.out-is ∙ w.in_ok-put_front.ensures.put.step.kept.1
                ∙ c.loop-at.invariant.channels;
            faults =
                ap g.B.BlockSink.faults w.out-is ∙ w.in_ok-put_front.ensures.put.step.cause
                ∙ c.loop-at.invariant.faults;
            same =
                subst (g.B.BlockSink.same c.args.out.now) (sym w.out-is)
                (g.met.B.BlockSink.transitive c.args.out.now c.loop-at.out w.put_front.new.out c.loop-at.invariant.same
                w.put_front.ensures.put.step.same);
          }
    ]
