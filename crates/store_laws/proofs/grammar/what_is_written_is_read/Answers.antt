use Rattle.store_laws.proofs.Written.{written_back, written_file}
use Rattle.store_laws.proofs.grammar.what_is_written_is_read.Goals as goal

pub returns : goal.returns
returns c = record { file = written_file; read = written_back }
