use Rattle.std.proofs.Common.{◌≡◌, ◌+◌, ◌++◌, ◌∙◌, ap, arith, codes, length, length-append, sym}
use Rattle.std.specs.List.{join_by, range_with_len}
use Rattle.list_engine.proofs.Texts.{behind, joined_more}
use Rattle.list_engine.specs.Payloads.{frame_said}
use Rattle.list_engine.proofs.frames.push_frames.Goals as goal

pub push_frame-requires-clause-frame : goal.push_frame-requires-clause-frame
push_frame-requires-clause-frame c =
    let some = c.frames-count.ensures.some in
    let frames = c.frames-count.ensures.frames in
    omega (arith, some, frames)

pub loop-at-preserved : goal.loop-at-preserved
loop-at-preserved c =
    let start = c.args.line.now in
    let at = c.loop-at.at in
    let before = c.loop-at.line in
    let next = c.push_frame-in-loop-at.new.line in
    let said = frame_said c.args.view.now in
    let inv = c.loop-at.invariant in
    let size = c.push_frame-in-loop-at.ensures.most in
    let grown : length c.push.new.self ≡ length before + 1 = ap length c.push.ensures ∙
    length-append before (codes ",") in
    let most = inv.most in record {
      text = behind start before next (join_by said (codes ",") (range_with_len 0 at))
          (codes "," ++ said at)
          inv.text (behind before c.push.new.self next (codes ",") (said at) c.push.ensures
          c.push_frame-in-loop-at.ensures.text)
          ∙ ap (λ t. start ++ t) (sym (joined_more said (codes ",") at inv.some));
      most = omega (arith, size, grown, most);
      some = omega arith;
    }
