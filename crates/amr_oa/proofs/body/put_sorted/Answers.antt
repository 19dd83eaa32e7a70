use Rattle.std.proofs.Common.{◌≡◌, ◌+◌, ◌-◌, ◌++◌, ap, arith}
use Rattle.std.specs.Prelude.{flat_map}
use Rattle.std.specs.List.{range_with_len}
use Rattle.amr_frame.specs.Blocks.{frames_of}
use Rattle.amr_oa.specs.Written.{longest_of, row_part, sorted_part}
use Rattle.amr_oa.proofs.Pieces.{range_from, wrote_step}
use Rattle.amr_oa.proofs.body.put_sorted.Goals as goal

pub loop-octet-preserved : goal.loop-octet-preserved
loop-octet-preserved c =
    let frames = frames_of c.args.cells.now in
    let o = c.loop-octet.octet in
    let n = longest_of frames in
    let rest = flat_map (row_part frames) (range_with_len (o + 1) (n - (o + 1))) in
    let from : flat_map (row_part frames) (range_with_len o (n - o)) ≡ row_part frames o ++ rest = ap (flat_map (row_part frames)) (range_from o n (omega arith)) in
    wrote_step c.args.out.now c.args.start (sorted_part frames) c.loop-octet.out c.loop-octet.at (row_part frames o) rest _ c.put_row-at.new.out c.put_row-at.result from c.loop-octet.invariant (omega arith) c.put_row-at.ensures.at c.put_row-at.ensures.octets
