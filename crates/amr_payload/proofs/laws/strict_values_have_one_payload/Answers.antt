use Rattle.amr_payload.proofs.Strictly.{one_payload}
use Rattle.amr_payload.proofs.laws.strict_values_have_one_payload.Goals as goal

pub returns : goal.returns
returns c = one_payload
