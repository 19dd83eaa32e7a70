use Rattle.rtp_packet.proofs.Causes.{one_answer}
use Rattle.rtp_packet.proofs.laws.octets_tell_one_answer.Goals as goal

pub returns : goal.returns
returns c = one_answer
