use Rattle.std.proofs.Common.{◌%◌, ◌∙◌}
use Rattle.plain_packet.proofs.Fields.{sequence_field}
use Rattle.plain_packet.proofs.view.PlainPacket.sequence.Goals as goal

pub returns : goal.returns
returns c =
    (λ i. c.number_at_octet.ensures i % 65536)
    ∙ sequence_field c.args.self.now.codec c.args.self.now.room.now c.args.self.now.len c.args.self.now.plain
