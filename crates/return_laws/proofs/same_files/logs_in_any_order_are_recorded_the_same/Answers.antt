use Rattle.return_laws.proofs.Ordered.{ordered}
use Rattle.return_laws.proofs.same_files.logs_in_any_order_are_recorded_the_same.Goals as goal

pub returns : goal.returns
returns c = ordered
