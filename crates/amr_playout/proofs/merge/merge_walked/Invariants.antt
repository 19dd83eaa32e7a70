use Rattle.std.proofs.Common.{◌≤◌}
use Rattle.amr_playout.specs.Copied.{IsPast, TakesCopies, copies_to}
use Rattle.amr_playout.specs.Plans.{rules_in}
use Rattle.amr_playout.specs.Ring.{IsRing}
use Rattle.amr_toc.specs.Viewed.{viewed}
use Rattle.amr_toc.specs.Walks.{StandsAt}
use Rattle.spec_session.specs.Session.{Accepted}
use Rattle.amr_playout.proofs.merge.merge_walked.Given as goal

abbrev pub invariant-loop-index : goal.invariant-loop-index
invariant-loop-index g l = record {
  merged : (a : Accepted) → IsPast (rules_in l.plan) (viewed l.payload) l.place l.edge a →
      TakesCopies l.plan l.base l.initial.ring l.ring (record { next = l.next; copies = 0 }) l.merged
      (copies_to (rules_in l.plan) a l.index);
  few : l.merged.copies ≤ l.index;
  stands : StandsAt l.payload l.walk l.index;
  ring : IsRing l.plan l.ring;
}
