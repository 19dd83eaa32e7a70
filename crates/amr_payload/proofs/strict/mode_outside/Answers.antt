use Rattle.std.proofs.Common.{◌<◌, length, sym, arith}
use Rattle.amr_payload.proofs.Strictly.{outside_found, outside_none, outside_step}
use Rattle.amr_toc.specs.Viewed.{said}
use Rattle.amr_payload.proofs.strict.mode_outside.Goals as goal

pub returns-in-Some : goal.returns-in-Some
returns-in-Some c =
    let fs = (said c.args.view.now).frames in
    let n = c.frames-at-end.ensures.said in
    let h : c.loop-at.at < length fs = omega arith in
    sym (outside_found c.args.profile.now fs c.loop-at.at c.loop-at.invariant c.in-Some.why h c.in-Some.ensures)

pub loop-at-preserved : goal.loop-at-preserved
loop-at-preserved c =
    let fs = (said c.args.view.now).frames in
    let n = c.frames-at-end.ensures.said in
    let h : c.loop-at.at < length fs = omega arith in
    outside_step c.args.profile.now fs c.loop-at.at c.loop-at.invariant h c.in_default.ensures

pub returns : goal.returns
returns c =
    let fs = (said c.args.view.now).frames in
    let n = c.frames-at-end.ensures.said in
    sym (outside_none c.args.profile.now fs c.loop-at.at c.loop-at.invariant (omega arith))
