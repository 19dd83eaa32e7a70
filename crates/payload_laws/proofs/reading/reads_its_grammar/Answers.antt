use Rattle.payload_laws.proofs.EachFormat.{not_refused, value_of, checks_of, in_grammar_of}
use Rattle.payload_laws.proofs.reading.reads_its_grammar.Goals as goal

pub returns : goal.returns
returns c = record { accepted = not_refused; value = value_of; checks = checks_of; only = in_grammar_of }
