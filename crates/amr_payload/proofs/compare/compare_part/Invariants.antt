use Rattle.std.proofs.Common.{drop}
use Rattle.amr_payload.proofs.Comparing.{Went}
use Rattle.amr_payload.specs.Comparing.{part_of}
use Rattle.amr_toc.specs.Viewed.{octets_of, said}
use Rattle.amr_payload.proofs.compare.compare_part.Given as goal

abbrev pub invariant-loop-at : goal.invariant-loop-at
invariant-loop-at l =
    let fs = (said l.view).frames in
    Went (octets_of l.view) l.start (part_of l.profile l.part fs) l.place (part_of l.profile l.part (drop l.at fs))
