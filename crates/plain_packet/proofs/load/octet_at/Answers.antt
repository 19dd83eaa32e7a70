use Rattle.std.proofs.Common.{◌+◌, arith}
use Rattle.plain_packet.proofs.Cutting.{across_two}
use Rattle.plain_packet.proofs.load.octet_at.Goals as goal

pub returns : goal.returns
returns c =
    across_two c.args.payload.now c.args.at (omega (arith, c.type_inv.payload (c.args.at + 1)))
    (omega (arith, c.type_inv.payload (c.args.at + 2)))
