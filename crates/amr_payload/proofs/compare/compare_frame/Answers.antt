use Rattle.std.proofs.Common.{drop, arith}
use Rattle.amr_bits.proofs.Filled.{length-filled}
use Rattle.amr_oa.specs.Written.{frame_part}
use Rattle.amr_payload.proofs.Comparing.{all_dropped, frame_more, frame_wrong, went_all}
use Rattle.amr_toc.specs.Viewed.{frame_in, octets_of, said}
use Rattle.amr_payload.proofs.compare.compare_frame.Goals as goal

pub returns-in-Err : goal.returns-in-Err
returns-in-Err c =
    frame_wrong (frame_in (said c.args.view.now) c.args.at) (octets_of c.args.view.now) c.args.start c.loop-octet.place
    c.loop-octet.octet c.octets_in-octet-end.result c.octets_in-octet-end.ensures (omega arith) c.loop-octet.invariant
    c.in-Err.place c.in-Err.ensures

pub loop-octet-preserved : goal.loop-octet-preserved
loop-octet-preserved c =
    frame_more (frame_in (said c.args.view.now) c.args.at) (octets_of c.args.view.now) c.args.start c.loop-octet.place
    c.loop-octet.octet c.octets_in-octet-end.result c.octets_in-octet-end.ensures (omega arith) c.loop-octet.invariant
    c.in-Ok.end c.in-Ok.ensures

pub returns : goal.returns
returns c =
    let part = frame_part (frame_in (said c.args.view.now) c.args.at) in
    let n = c.octets_in-octet-end.ensures in
    let l = length-filled (frame_in (said c.args.view.now) c.args.at).bits in
    went_all (octets_of c.args.view.now) c.args.start part c.loop-octet.place (drop c.loop-octet.octet part)
    (all_dropped part c.loop-octet.octet (omega arith)) c.loop-octet.invariant
