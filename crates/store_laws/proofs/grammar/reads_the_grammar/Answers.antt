use Rattle.store_laws.proofs.Reading.{in_grammar}
use Rattle.store_laws.proofs.grammar.reads_the_grammar.Goals as goal

pub returns : goal.returns
returns c = in_grammar
