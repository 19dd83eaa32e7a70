use Rattle.order_laws.proofs.Heard.{all_whole}
use Rattle.order_laws.proofs.recorded.records_hold_whole_blocks.Goals as goal

pub returns : goal.returns
returns c = all_whole
