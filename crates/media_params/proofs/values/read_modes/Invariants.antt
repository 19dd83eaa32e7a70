use Rattle.std.proofs.Common.{length}
use Rattle.media_params.proofs.Listed.{IsRead}
use Rattle.media_params.specs.Parts.{parts_in}
use Rattle.media_params.proofs.values.read_modes.Given as goal

abbrev pub invariant-loop-rest : goal.invariant-loop-rest
invariant-loop-rest l = IsRead l.codec l.text l.set (parts_in 44 l.rest)

abbrev pub decreases-loop-rest : goal.decreases-loop-rest
decreases-loop-rest l = length (parts_in 44 l.rest)
