use Rattle.std.proofs.Common.{◌≡◌, drop}
use Rattle.std.specs.Prelude.{fold, max}
use Rattle.amr_oa.specs.Written.{longest_of}
use Rattle.amr_toc.specs.Viewed.{said}
use Rattle.spec_payload.specs.Values.{octet_counts}
use Rattle.amr_payload.proofs.compare.longest.Given as goal

abbrev pub invariant-loop-at : goal.invariant-loop-at
invariant-loop-at l = fold max l.most (octet_counts (drop l.at (said l.view).frames)) ≡ longest_of (said l.view).frames
