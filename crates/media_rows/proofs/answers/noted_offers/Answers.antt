use Rattle.std.specs.Prelude.{refl}
use Rattle.std.specs.Fmt.{digits}
use Rattle.media_rows.proofs.answers.noted_offers.Goals as goal

pub returns-clause-worked : goal.returns-clause-worked
unfolding digits
returns-clause-worked c = refl

pub returns-clause-none_suits : goal.returns-clause-none_suits
unfolding digits
returns-clause-none_suits c = refl

pub returns-clause-f1 : goal.returns-clause-f1
unfolding digits
returns-clause-f1 c = refl

pub returns-clause-f2 : goal.returns-clause-f2
unfolding digits
returns-clause-f2 c = refl

pub returns-clause-f3 : goal.returns-clause-f3
unfolding digits
returns-clause-f3 c = refl

pub returns-clause-f4 : goal.returns-clause-f4
unfolding digits
returns-clause-f4 c = refl

pub returns-clause-f6 : goal.returns-clause-f6
unfolding digits
returns-clause-f6 c = refl
