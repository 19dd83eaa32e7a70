use Rattle.std.proofs.Common.{drop}
use Rattle.amr_frame.specs.Blocks.{frames_of}
use Rattle.amr_oa.specs.Written.{row_part}
use Rattle.amr_oa.proofs.Pieces.{Wrote}
use Rattle.amr_oa.proofs.body.put_row.Given as goal

abbrev pub invariant-loop-cell : goal.invariant-loop-cell
invariant-loop-cell l = Wrote l.initial.out l.start (row_part (frames_of l.cells) l.octet) l.out l.at (row_part (frames_of (drop l.cell-index l.cells)) l.octet)
