use Rattle.amr_sender.proofs.Adding.{parts_add, sends_add}
use Rattle.amr_sender.proofs.laws.calls_add_up.Goals as goal

pub returns-clause-whole : goal.returns-clause-whole
returns-clause-whole g c = λ a b d l m n. sends_add g.P.PacketSink a b d l m n

pub returns-clause-part : goal.returns-clause-part
returns-clause-part g c = λ a b d l m n. parts_add g.P.PacketSink a b d l m n
