use Rattle.payload_laws.proofs.EachFormat.{either, not_both}
use Rattle.payload_laws.proofs.reading.is_read_or_refused.Goals as goal

pub returns : goal.returns
returns c = record { either = either; never_both = not_both }
