use Rattle.payload_laws.proofs.EachFormat.{packed_either, not_both}
use Rattle.payload_laws.proofs.packed.packed_is_read_or_refused.Goals as goal

pub returns : goal.returns
returns c = record { either = packed_either; never_both = λ p v checks octets valid packed. not_both p v checks octets valid }
