use Rattle.std.proofs.Common.{sym, arith}
use Rattle.rtp_packet.proofs.Octets.{low_seven}
use Rattle.plain_packet.proofs.head.type_at_octet.Goals as goal

pub returns : goal.returns
returns c = sym (low_seven c.args.room.now (omega (arith, c.type_inv.room 1)))
