use Rattle.amr_payload.proofs.Again.{not_refused, read_again, undamaged}
use Rattle.amr_payload.proofs.laws.reads_what_was_written.Goals as goal

pub returns : goal.returns
returns c = record { accepted = not_refused; value = read_again; undamaged = undamaged }
