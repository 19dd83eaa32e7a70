use Rattle.amr_oa.proofs.Accepting.{none_refuses, same_value, undamaged}
use Rattle.amr_oa.proofs.laws.reads_what_was_written.Goals as goal

pub returns : goal.returns
returns c = record { accepted = none_refuses; value = same_value; undamaged = undamaged }
