use Rattle.stranger_laws.proofs.Choosing.{chosen_early, chosen_file}
use Rattle.stranger_laws.proofs.records.strangers_change_no_file.Goals as goal

pub returns : goal.returns
returns c = record { file = chosen_file; early = chosen_early }
