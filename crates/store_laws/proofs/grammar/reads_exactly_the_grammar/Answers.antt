use Rattle.store_laws.proofs.Reading.{is_file}
use Rattle.store_laws.proofs.grammar.reads_exactly_the_grammar.Goals as goal

pub returns : goal.returns
returns c = is_file
