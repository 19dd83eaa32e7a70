use Rattle.std.proofs.Common.{length}
use Rattle.media_params.proofs.Whole.{IsReadTo}
use Rattle.media_params.specs.Parts.{parts_in}
use Rattle.media_params.proofs.reading.read_fmtp.Given as goal

abbrev pub invariant-loop-rest : goal.invariant-loop-rest
invariant-loop-rest l = IsReadTo l.codec l.text l.given (parts_in 59 l.rest)

abbrev pub decreases-loop-rest : goal.decreases-loop-rest
decreases-loop-rest l = length (parts_in 59 l.rest)
