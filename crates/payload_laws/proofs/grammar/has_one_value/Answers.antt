use Rattle.payload_laws.proofs.OneValue.{one_value, one_checks}
use Rattle.payload_laws.proofs.grammar.has_one_value.Goals as goal

pub returns : goal.returns
returns c = record { value = one_value; checks = one_checks }
