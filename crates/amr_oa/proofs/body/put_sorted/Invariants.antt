use Rattle.std.proofs.Common.{◌-◌}
use Rattle.std.specs.Prelude.{flat_map}
use Rattle.std.specs.List.{range_with_len}
use Rattle.amr_frame.specs.Blocks.{frames_of}
use Rattle.amr_oa.specs.Written.{longest_of, row_part, sorted_part}
use Rattle.amr_oa.proofs.Pieces.{Wrote}
use Rattle.amr_oa.proofs.body.put_sorted.Given as goal

abbrev pub invariant-loop-octet : goal.invariant-loop-octet
invariant-loop-octet l =
    Wrote l.initial.out l.start (sorted_part (frames_of l.cells)) l.out l.at (flat_map (row_part (frames_of l.cells)) (range_with_len l.octet (longest_of (frames_of l.cells) - l.octet)))
