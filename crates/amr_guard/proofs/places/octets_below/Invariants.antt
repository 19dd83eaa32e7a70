use Rattle.std.proofs.Common.{◌≡◌, ◌≤◌, ◌*◌, min, take}
use Rattle.std.specs.List.{sum_by}
use Rattle.amr_guard.proofs.places.octets_below.Given as goal

abbrev pub invariant-loop-length : goal.invariant-loop-length
invariant-loop-length l = (l.total ≡ sum_by (λ x. min x l.octet) (take l.length-index l.lengths)) × (l.total ≤ 255 * l.length-index)
