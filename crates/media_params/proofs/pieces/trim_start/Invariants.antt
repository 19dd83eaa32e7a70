use Rattle.media_params.proofs.Parts.{AllOf}
use Rattle.spec_media.specs.Pieces.{is_white}
use Rattle.media_params.proofs.pieces.trim_start.Given as goal

abbrev pub invariant-loop-start : goal.invariant-loop-start
invariant-loop-start l = AllOf is_white l.text l.start
