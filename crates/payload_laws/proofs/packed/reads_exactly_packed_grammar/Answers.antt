use Rattle.payload_laws.proofs.EachFormat.{packed_exactly}
use Rattle.payload_laws.proofs.packed.reads_exactly_packed_grammar.Goals as goal

pub returns : goal.returns
returns c = packed_exactly
