use Rattle.payload_laws.proofs.EachFormat.{not_refused, packed_value, packed_grammar}
use Rattle.payload_laws.proofs.packed.reads_packed_grammar.Goals as goal

pub returns : goal.returns
returns c = record { accepted = λ p v checks octets valid packed. not_refused p v checks octets valid; value = packed_value; only = packed_grammar }
