use Rattle.amr_be.proofs.Again.{is_payload, not_refused, same_value, undamaged}
use Rattle.amr_be.proofs.laws.reads_what_was_written.Goals as goal

pub returns : goal.returns
returns c = record { payload = is_payload; accepted = not_refused; value = same_value; undamaged = undamaged }
