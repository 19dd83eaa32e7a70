use Rattle.std.specs.Prelude.{refl}
use Rattle.std.specs.Fmt.{digits}
use Rattle.media_rows.proofs.parameters.printed_parameters.Goals as goal

pub returns-clause-of_groups : goal.returns-clause-of_groups
unfolding digits
returns-clause-of_groups c = refl

pub returns-clause-all : goal.returns-clause-all
unfolding digits
returns-clause-all c = refl
