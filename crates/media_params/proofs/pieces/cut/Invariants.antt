use Rattle.std.proofs.Common.{nat_eq}
use Rattle.media_params.proofs.Parts.{NoneOf}
use Rattle.media_params.proofs.pieces.cut.Given as goal

abbrev pub invariant-loop-place : goal.invariant-loop-place
invariant-loop-place l = NoneOf (λ o. nat_eq o l.octet) l.text l.place
