use Rattle.std.proofs.Common.{◌≡◌, ◌≤◌}
use Rattle.std.specs.Prelude.{not}
use Rattle.amr_playout.proofs.Late.{count_to}
use Rattle.amr_playout.specs.Copied.{IsPast}
use Rattle.amr_playout.specs.Plans.{rules_in}
use Rattle.amr_toc.specs.Viewed.{viewed}
use Rattle.spec_session.specs.Copies.{in_time}
use Rattle.spec_session.specs.Session.{Accepted, block_place}
use Rattle.amr_playout.proofs.step.late_blocks.Given as goal

abbrev pub invariant-loop-block : goal.invariant-loop-block
invariant-loop-block l = record {
  late : (a : Accepted) → IsPast (rules_in l.plan) (viewed l.payload) l.place l.edge a →
      l.late ≡ count_to (λ k. not (in_time (rules_in l.plan) a (block_place a k))) l.block;
  few : l.late ≤ l.block;
}
