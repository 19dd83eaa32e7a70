use Rattle.payload_laws.proofs.EachFormat.{read_exactly}
use Rattle.payload_laws.proofs.reading.reads_exactly_its_grammar.Goals as goal

pub returns : goal.returns
returns c = read_exactly
