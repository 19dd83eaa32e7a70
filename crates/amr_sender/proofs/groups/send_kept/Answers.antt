use Rattle.std.proofs.Common.{[], ◌∷◌, cond, sym, ap, ◌∙◌}
use Rattle.amr_frame.specs.Blocks.{frames_of}
use Rattle.amr_sender.proofs.Putting.{part_put}
use Rattle.amr_sender.specs.Packets.{packet_with}
use Rattle.amr_sender.proofs.groups.send_kept.Goals as goal

pub returns-in-Err-clause-put : goal.returns-in-Err-clause-put
returns-in-Err-clause-put g c =
    let packet = packet_with c.args.plan.now c.args.head (frames_of c.args.cells.now) in
    part_put g.P.PacketSink c.args.out.now c.send.new.out _ packet c.send.result c.in-Err.failed c.send.ensures c.in-Err.is
    (ap (λ v. cond v (packet ∷ []) []) (sym (sym c.keeps.ensures ∙ c.if-keeps.true)))
