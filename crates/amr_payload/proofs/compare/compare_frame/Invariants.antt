use Rattle.std.proofs.Common.{drop}
use Rattle.amr_oa.specs.Written.{frame_part}
use Rattle.amr_payload.proofs.Comparing.{Went}
use Rattle.amr_toc.specs.Viewed.{frame_in, octets_of, said}
use Rattle.amr_payload.proofs.compare.compare_frame.Given as goal

abbrev pub invariant-loop-octet : goal.invariant-loop-octet
invariant-loop-octet l =
    let part = frame_part (frame_in (said l.view) l.at) in
    Went (octets_of l.view) l.start part l.place (drop l.octet part)
