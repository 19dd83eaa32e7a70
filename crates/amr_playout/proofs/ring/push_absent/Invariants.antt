use Rattle.std.proofs.Common.{◌≡◌, ◌++◌, length, drop, replicate}
use Rattle.amr_playout.proofs.ring.push_absent.Given as goal

abbrev pub invariant-loop-at : goal.invariant-loop-at
invariant-loop-at l = record {
  full : length l.ring.items ≡ l.ring.capacity;
  capacity : l.ring.capacity ≡ l.initial.ring.capacity;
  items : l.ring.items ≡ drop l.at l.initial.ring.items ++ replicate l.at l.none;
}
