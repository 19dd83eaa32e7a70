use Rattle.std.proofs.Common.{◌≡◌, find, length, map}
use Rattle.media_params.specs.Named.{is_called}
use Rattle.spec_media.specs.Params.{row_for}
use Rattle.media_params.proofs.names.first_called.Given as goal

abbrev pub invariant-loop-rest : goal.invariant-loop-rest
invariant-loop-rest l = find (is_called l.name) (map row_for l.rest) ≡ find (is_called l.name) (map row_for l.params)

abbrev pub decreases-loop-rest : goal.decreases-loop-rest
decreases-loop-rest l = length l.rest
