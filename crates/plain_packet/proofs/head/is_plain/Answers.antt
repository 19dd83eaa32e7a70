use Rattle.std.proofs.Common.{◌≡◌, ◌+◌, ◌<◌, ◌/◌, arith}
use Rattle.plain_packet.proofs.Heads.{head_plain}
use Rattle.plain_packet.proofs.head.is_plain.Goals as goal

pub returns-clause-plain : goal.returns-clause-plain
returns-clause-plain c = λ e.
    let n = c.bits_by_type-bits.result in
    let zero = c.if-bits-eq0.false in
    let some : 0 < n = grind (arith, zero) in
    let whole : c.args.len ≡ 12 + (n + 17) / 8 = grind (arith, e) in
    head_plain c.args.codec c.args.room.now c.args.len c.entry_type.result n c.requires
    c.entry_type.ensures.exact c.bits_by_type-bits.ensures.exact c.bits_by_type-bits.ensures.most
    c.if-room.false c.if-room-ne0.false some whole
