use Rattle.plain_packet.proofs.Hearing.{heard}
use Rattle.plain_packet.proofs.laws.plain_packets_are_heard.Goals as goal

pub returns : goal.returns
returns c = λ p octets carries plain. heard p octets carries plain
