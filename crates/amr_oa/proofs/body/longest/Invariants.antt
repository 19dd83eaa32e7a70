use Rattle.std.proofs.Common.{◌≡◌, drop}
use Rattle.std.specs.Prelude.{fold, max}
use Rattle.amr_frame.specs.Blocks.{frames_of}
use Rattle.amr_oa.specs.Written.{longest_of}
use Rattle.spec_payload.specs.Values.{octet_counts}
use Rattle.amr_oa.proofs.body.longest.Given as goal

abbrev pub invariant-loop-cell : goal.invariant-loop-cell
invariant-loop-cell l = fold max l.most (octet_counts (frames_of (drop l.cell-index l.cells))) ≡ longest_of (frames_of l.cells)
