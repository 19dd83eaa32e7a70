use Rattle.std.proofs.Common.{arith}
use Rattle.amr_oa.proofs.Pieces.{frame_at}
use Rattle.amr_oa.proofs.write.put_checks.Goals as goal

pub put_check-at-requires-clause-frame : goal.put_check-at-requires-clause-frame
put_check-at-requires-clause-frame c = frame_at c.args.profile.now.codec c.args.cells.now c.loop-cell.cell-index c.cell-item.result c.requires.frames c.cell-item.is (omega arith)
