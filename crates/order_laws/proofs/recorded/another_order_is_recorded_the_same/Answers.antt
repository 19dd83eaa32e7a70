use Rattle.order_laws.proofs.Heard.{same_file}
use Rattle.order_laws.proofs.recorded.another_order_is_recorded_the_same.Goals as goal

pub returns : goal.returns
returns c = same_file
