use Rattle.stranger_laws.proofs.Choosing.{chosen_packets}
use Rattle.stranger_laws.proofs.records.accepted_records_are_accepted_packets.Goals as goal

pub returns : goal.returns
returns c = chosen_packets
