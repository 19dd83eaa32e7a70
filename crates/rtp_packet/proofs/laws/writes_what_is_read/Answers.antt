use Rattle.rtp_packet.proofs.Respelled.{written_again}
use Rattle.rtp_packet.proofs.Small.{small_of}
use Rattle.rtp_packet.proofs.laws.writes_what_is_read.Goals as goal

pub returns : goal.returns
returns c = λ octets are ok. written_again octets (small_of octets are) ok
