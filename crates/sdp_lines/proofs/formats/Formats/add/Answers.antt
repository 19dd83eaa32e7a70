use Rattle.std.proofs.Common.{◌<◌, length, arith, rules}
use Rattle.sdp_lines.proofs.Seen.{count_below}
use Rattle.sdp_lines.proofs.formats.Formats.add.Goals as goal

pub push-requires : goal.push-requires
push-requires c =
    let formats = c.args.self.now in
    let less = count_below formats.seen c.args.pt (omega arith) (search rules) in
    let room : length formats.items.items < 128 = omega arith in (omega arith, room)
