use Rattle.std.proofs.Common.{refl}
use Rattle.std.specs.Fmt.{digits}
use Rattle.sending_rows.proofs.runs.notes_of_runs.Goals as goal

pub returns-clause-sent : goal.returns-clause-sent
unfolding digits
returns-clause-sent c = refl

pub returns-clause-converted : goal.returns-clause-converted
unfolding digits
returns-clause-converted c = refl

pub returns-clause-t2 : goal.returns-clause-t2
unfolding digits
returns-clause-t2 c = refl

pub returns-clause-t3 : goal.returns-clause-t3
unfolding digits
returns-clause-t3 c = refl

pub returns-clause-t4 : goal.returns-clause-t4
unfolding digits
returns-clause-t4 c = refl

pub returns-clause-t5 : goal.returns-clause-t5
unfolding digits
returns-clause-t5 c = refl
