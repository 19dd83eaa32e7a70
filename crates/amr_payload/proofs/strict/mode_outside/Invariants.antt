use Rattle.amr_payload.proofs.Strictly.{OutsideFrom}
use Rattle.amr_toc.specs.Viewed.{said}
use Rattle.amr_payload.proofs.strict.mode_outside.Given as goal

abbrev pub invariant-loop-at : goal.invariant-loop-at
invariant-loop-at l = OutsideFrom l.profile (said l.view).frames l.at
