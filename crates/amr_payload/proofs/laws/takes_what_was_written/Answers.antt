use Rattle.amr_payload.proofs.Strictly.{takes_written}
use Rattle.amr_payload.proofs.laws.takes_what_was_written.Goals as goal

pub returns : goal.returns
returns c = takes_written
