use Rattle.amr_payload.proofs.Again.{same_bits, same_size}
use Rattle.amr_payload.proofs.laws.writes_what_is_said.Goals as goal

pub returns : goal.returns
returns c = record { size = same_size; bits = same_bits }
