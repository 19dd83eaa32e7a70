use Rattle.std.proofs.Common.{◌≡◌, false}
use Rattle.amr_sender.specs.Single.{SendsSingly}
use Rattle.amr_sender.proofs.tests.headers_of.Given as goal

abbrev pub invariant-loop-head : goal.invariant-loop-head
invariant-loop-head l = record {
  single : SendsSingly l.sender.plan;
  unspent : l.sender.spent ≡ false;
  blocks : l.sender.blocks ≡ l.head-index;
}
