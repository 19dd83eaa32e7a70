use Rattle.std.proofs.Common.{refl, arith}
use Rattle.std.proofs.lemmas.List.{get_or-replicate}
use Rattle.amr_guard.proofs.places.counted.Goals as goal

pub loop-length-init : goal.loop-length-init
loop-length-init c = (refl, λ k h. get_or-replicate 61 k 0 0 (omega arith))
