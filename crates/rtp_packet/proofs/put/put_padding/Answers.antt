use Rattle.std.proofs.Common.{◌-◌, length, rules, refl}
use Rattle.rtp_packet.proofs.Padded.{padded_set}
use Rattle.rtp_packet.proofs.put.put_padding.Goals as goal

pub returns : goal.returns
returns c =
    let out = c.args.out.now in
    padded_set out c.fill.new.self c.args.at (length out - 1 - c.args.at) (length out - 1) c.args.padding c.requires c.if-padding-eq0.false refl refl (search (rules, c.fill.ensures.after))
