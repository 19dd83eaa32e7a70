use Rattle.std.proofs.Common.{sym, ◌∙◌}
use Rattle.rtp_packet.proofs.Grammar.{accepts, reads, has, exactly}
use Rattle.rtp_packet.proofs.laws.reads_its_grammar.Goals as goal

pub returns : goal.returns
returns c = record {
  accepted = accepts;
  fields = reads;
  only = has;
  exact = exactly;
  one = λ p q octets are a b. sym (reads p octets are a) ∙ reads q octets are b;
}
