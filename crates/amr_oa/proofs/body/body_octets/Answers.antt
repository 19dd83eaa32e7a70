use Rattle.std.proofs.Common.{◌+◌, length, drop, ap, ◌∙◌, arith}
use Rattle.std.proofs.lemmas.List.{length-append}
use Rattle.amr_bits.proofs.Filled.{length-filled}
use Rattle.amr_bits.specs.Runs.{kept}
use Rattle.amr_frame.specs.Blocks.{frames_of}
use Rattle.amr_frame.specs.Cells.{frame_of}
use Rattle.amr_oa.specs.Written.{frame_part, plain_part}
use Rattle.amr_oa.proofs.Pieces.{pieces_from}
use Rattle.amr_oa.proofs.body.body_octets.Goals as goal

pub loop-cell-preserved : goal.loop-cell-preserved
loop-cell-preserved c =
    let cells = c.args.cells.now in
    let k = c.loop-cell.cell-index in
    let cell = c.cell-item.result in
    let rest = plain_part (frames_of (drop (k + 1) cells)) in
    let here = ap length (pieces_from frame_part cells k cell c.cell-item.is (omega arith)) ∙ length-append (frame_part (frame_of cell)) rest in
    let size = length-filled (kept cell.bits) in
    let one = c.octets_in-octets.ensures.octets in
    let most = c.octets_in-octets.ensures.most in
    let all = c.loop-cell.invariant.0 in
    let low = c.loop-cell.invariant.1 in
    (omega arith, omega arith)
