use Rattle.std.specs.Prelude.{refl}
use Rattle.std.specs.Fmt.{digits}
use Rattle.media_rows.proofs.answers.answered_offers.Goals as goal

pub returns-clause-worked : goal.returns-clause-worked
unfolding digits
returns-clause-worked c = refl

pub returns-clause-modes_added : goal.returns-clause-modes_added
unfolding digits
returns-clause-modes_added c = refl

pub returns-clause-no_parameters : goal.returns-clause-no_parameters
unfolding digits
returns-clause-no_parameters c = refl

pub returns-clause-groups : goal.returns-clause-groups
unfolding digits
returns-clause-groups c = refl
