use Rattle.amr_be.proofs.Again.{is_value, same_size, same_bits}
use Rattle.amr_be.proofs.laws.writes_what_was_read.Goals as goal

pub returns : goal.returns
returns c = record { carried = is_value; size = same_size; bits = same_bits }
