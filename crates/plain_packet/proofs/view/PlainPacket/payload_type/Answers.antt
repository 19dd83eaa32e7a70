use Rattle.std.proofs.Common.{◌∙◌, sym, arith}
use Rattle.plain_packet.proofs.Fields.{field}
use Rattle.plain_packet.proofs.view.PlainPacket.payload_type.Goals as goal

pub returns : goal.returns
returns c =
    c.type_at_octet.ensures
    ∙ sym (field c.args.self.now.codec c.args.self.now.room.now c.args.self.now.len c.args.self.now.plain 9 7 (omega arith))
