use Rattle.std.proofs.Common.{drop}
use Rattle.amr_frame.specs.Blocks.{frames_of}
use Rattle.amr_oa.specs.Written.{checks_part}
use Rattle.amr_oa.proofs.Pieces.{Wrote}
use Rattle.amr_oa.proofs.write.put_checks.Given as goal

abbrev pub invariant-loop-cell : goal.invariant-loop-cell
invariant-loop-cell l = Wrote l.initial.out l.start (checks_part l.profile (frames_of l.cells)) l.out l.at (checks_part l.profile (frames_of (drop l.cell-index l.cells)))
