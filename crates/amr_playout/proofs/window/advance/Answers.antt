use Rattle.std.proofs.Common.{◌*◌, ◌-◌, ◌≤◌, ℕ, List, replicate, subst, sym, ◌∙◌, Option, arith}
use Rattle.std.proofs.lemmas.Nat.{mul-le}
use Rattle.amr_frame.proofs.BlocksLemmas.{GotBlocks-append, GotPrefix-behind, GotPrefix-longer}
use Rattle.amr_frame.specs.Blocks.{GotBlocks, GotPrefix}
use Rattle.amr_frame.specs.Frames.{Frame, no_data}
use Rattle.amr_playout.proofs.Jumps.{plan_rows, plan_slid}
use Rattle.amr_playout.proofs.Plans.{facts}
use Rattle.amr_playout.proofs.Results.{on_err, on_err_then, on_ok_then}
use Rattle.amr_playout.specs.Window.{held_of, rows}
use Rattle.amr_playout.proofs.window.advance.Goals as goal

pub put_held-requires : goal.put_held-requires
put_held-requires g c =
    let f = facts c.args.plan.now c.requires.ring.planned in
    let n = c.args.plan.now.profile.channels in
    let wide = f.wide in
    let few = f.few in
    let one : 1 * n ≤ c.args.plan.now.window * n =
    mul-le 1 n c.args.plan.now.window n (omega (arith, wide)) (omega arith) in
    record {
      ready = record {
        full = record { full = c.requires.ring.full ∙ sym c.requires.ring.capacity; valid = c.requires.ring.valid };
        few = omega (arith, few, c.from-channels.ensures);
        room = omega (arith, one, c.requires.ring.capacity, c.from-channels.ensures);
        takes = record {
          ready = c.requires.sink.ready;
          codec = c.requires.sink.codec;
          channels = c.requires.sink.channels ∙ sym c.from-channels.ensures;
        };
      };
    }

pub returns-in_err-put_held-clause-part : goal.returns-in_err-put_held-clause-part
returns-in_err-put_held-clause-part g c =
    let xs : List (Option Frame) = held_of c.args.ring.now.items in
    let n : ℕ = c.from-channels.result in
    let pass : ℕ = c.min-pass.result in
    on_err c.from_residual.result _
    (subst (λ bs. GotPrefix g.B.BlockSink.whole g.B.BlockSink.part c.args.out.now bs c.put_held.new.out)
    (sym (plan_rows c.args.plan.now c.args.ring.now c.args.skip c.args.count pass c.from.result n c.requires.ring
    c.requires.skip c.from.ensures c.from-channels.ensures c.min-pass.ensures))
    (GotPrefix-longer g.B.BlockSink.whole g.B.BlockSink.part c.args.out.now (rows n xs c.args.skip (pass - c.args.skip))
    (replicate (c.args.count - pass) (replicate n no_data)) c.put_held.new.out
    c.in_err-put_held.ensures.part))

pub returns-clause-items : goal.returns-clause-items
returns-clause-items g c =
    on_ok_then c.put_no_data.result _ _
    (λ _.
    c.in_ok-put_held.ensures.items
    ∙ plan_slid c.args.plan.now c.args.ring.now c.args.count c.min-pass.result c.from.result c.from-channels.result
    c.requires.ring c.from.ensures c.from-channels.ensures c.min-pass.ensures)
    c.put_no_data.ensures.out

pub returns-clause-out : goal.returns-clause-out
returns-clause-out g c =
    let xs : List (Option Frame) = held_of c.args.ring.now.items in
    let n : ℕ = c.from-channels.result in
    let pass : ℕ = c.min-pass.result in
    on_ok_then c.put_no_data.result _ _
    (λ got.
    subst (λ bs. GotBlocks g.B.BlockSink.whole c.args.out.now bs c.put_no_data.new.out)
    (sym (plan_rows c.args.plan.now c.args.ring.now c.args.skip c.args.count pass c.from.result n c.requires.ring
    c.requires.skip c.from.ensures c.from-channels.ensures c.min-pass.ensures))
    (GotBlocks-append g.B.BlockSink.whole c.args.out.now (rows n xs c.args.skip (pass - c.args.skip)) c.put_held.new.out
    (replicate (c.args.count - pass) (replicate n no_data)) c.put_no_data.new.out
    c.in_ok-put_held.ensures.out got))
    c.put_no_data.ensures.out

pub returns-clause-part : goal.returns-clause-part
returns-clause-part g c =
    let xs : List (Option Frame) = held_of c.args.ring.now.items in
    let n : ℕ = c.from-channels.result in
    let pass : ℕ = c.min-pass.result in
    on_err_then c.put_no_data.result _ _
    (λ got.
    subst (λ bs. GotPrefix g.B.BlockSink.whole g.B.BlockSink.part c.args.out.now bs c.put_no_data.new.out)
    (sym (plan_rows c.args.plan.now c.args.ring.now c.args.skip c.args.count pass c.from.result n c.requires.ring
    c.requires.skip c.from.ensures c.from-channels.ensures c.min-pass.ensures))
    (GotPrefix-behind g.B.BlockSink.whole g.B.BlockSink.part c.args.out.now (rows n xs c.args.skip (pass - c.args.skip))
    c.put_held.new.out (replicate (c.args.count - pass) (replicate n no_data)) c.put_no_data.new.out
    c.in_ok-put_held.ensures.out got))
    c.put_no_data.ensures.part
