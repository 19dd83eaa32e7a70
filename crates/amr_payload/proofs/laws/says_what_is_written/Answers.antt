use Rattle.amr_payload.proofs.Again.{is_payload, same_value, same_checks}
use Rattle.amr_payload.proofs.laws.says_what_is_written.Goals as goal

pub returns : goal.returns
returns c = record { payload = is_payload; value = same_value; checks = same_checks }
