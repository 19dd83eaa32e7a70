use Rattle.std.proofs.Common.{rules}
use Rattle.trial_engine.proofs.Taped.{passed_on}
use Rattle.trial_engine.proofs.fate.hold_or_pass.Goals as goal

pub returns-then-is_held : goal.returns-then-is_held
returns-then-is_held c = passed_on _ _ _ _ _ (search rules) c.pass_once.ensures
