use Rattle.rtp_packet.proofs.Spelled.{read_back}
use Rattle.rtp_packet.proofs.laws.reads_what_is_written.Goals as goal

pub returns : goal.returns
returns c = read_back
