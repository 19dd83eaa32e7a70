use Rattle.std.proofs.Common.{◌+◌, ◌<◌, length, drop, arith}
use Rattle.amr_payload.proofs.Comparing.{no_pieces, pieces_at, went_all, went_step, went_wrong}
use Rattle.amr_payload.specs.Comparing.{part_of, piece_of}
use Rattle.amr_toc.specs.Viewed.{octets_of, said}
use Rattle.amr_payload.proofs.compare.compare_part.Goals as goal

pub returns-in-Err : goal.returns-in-Err
returns-in-Err c =
    let octets = octets_of c.args.view.now in
    let p = c.args.profile.now in
    let fs = (said c.args.view.now).frames in
    let k = c.loop-at.at in
    let n = c.frames-at-end.ensures.said in
    went_wrong octets c.args.start (part_of p c.args.part fs) c.loop-at.place (piece_of p c.args.part fs k)
    (part_of p c.args.part (drop (k + 1) fs)) _ c.in-Err.place (pieces_at p c.args.part fs k (omega arith))
    c.loop-at.invariant c.in-Err.ensures

pub loop-at-preserved : goal.loop-at-preserved
loop-at-preserved c =
    let n = c.frames-at-end.ensures.said in
    let fs = (said c.args.view.now).frames in
    let h : c.loop-at.at < length fs = omega arith in
    let from = pieces_at c.args.profile.now c.args.part fs c.loop-at.at h in
    went_step (octets_of c.args.view.now) c.args.start (part_of c.args.profile.now c.args.part fs) c.loop-at.place
    (piece_of c.args.profile.now c.args.part fs c.loop-at.at)
    (part_of c.args.profile.now c.args.part (drop (c.loop-at.at + 1) fs)) _ c.in-Ok.end from
    c.loop-at.invariant c.in-Ok.ensures

pub returns : goal.returns
returns c =
    let fs = (said c.args.view.now).frames in
    let part = part_of c.args.profile.now c.args.part in
    let n = c.frames-at-end.ensures.said in
    went_all (octets_of c.args.view.now) c.args.start (part fs) c.loop-at.place (part (drop c.loop-at.at fs))
    (no_pieces c.args.profile.now c.args.part fs c.loop-at.at (omega arith)) c.loop-at.invariant
