use Rattle.std.proofs.Common.{◌≡◌, ◌+◌, ◌%◌, ◌^◌, take}
use Rattle.std.specs.Prelude.{sum}
use Rattle.trial_engine.proofs.file_sum.add_up.Given as goal

abbrev pub invariant-loop-octet : goal.invariant-loop-octet
invariant-loop-octet l = l.total ≡ (l.start + sum (take l.octet-index l.octets)) % 2 ^ 32
