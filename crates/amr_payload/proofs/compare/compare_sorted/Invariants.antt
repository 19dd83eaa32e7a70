use Rattle.amr_oa.specs.Written.{sorted_part}
use Rattle.amr_payload.proofs.Comparing.{Went, rows_from}
use Rattle.amr_toc.specs.Viewed.{octets_of, said}
use Rattle.amr_payload.proofs.compare.compare_sorted.Given as goal

abbrev pub invariant-loop-octet : goal.invariant-loop-octet
invariant-loop-octet l =
    let fs = (said l.view).frames in
    Went (octets_of l.view) l.start (sorted_part fs) l.place (rows_from fs l.octet)
