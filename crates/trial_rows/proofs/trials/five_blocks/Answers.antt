use Rattle.std.specs.Prelude.{refl}
use Rattle.std.specs.Fmt.{digits}
use Rattle.trial_rows.proofs.trials.five_blocks.Goals as goal

pub returns-clause-summary : goal.returns-clause-summary
unfolding digits
returns-clause-summary c = refl
