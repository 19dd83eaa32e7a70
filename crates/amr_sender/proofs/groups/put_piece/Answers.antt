use Rattle.std.proofs.Common.{refl, arith}
use Rattle.amr_sender.proofs.Putting.{carries_piece, none_put, one_put, part_put, piece_none, piece_one}
use Rattle.amr_sender.proofs.groups.put_piece.Goals as goal

pub returns-then-count-eq0 : goal.returns-then-count-eq0
returns-then-count-eq0 g c =
    let none = c.if-count-eq0.true in
    none_put g.P.PacketSink c.args.out.now _ (g.met.P.PacketSink.reflexive c.args.out.now) c.requires.sink
    (piece_none c.args.plan.now c.args.behind c.args.group.now c.carried_len-count.result c.requires.single c.requires.some
    c.carried_len-count.ensures.trims (omega (arith, none)))

pub send-requires-clause-cells : goal.send-requires-clause-cells
send-requires-clause-cells g c =
    let some = c.if-count-eq0.false in
    carries_piece c.args.plan.now c.args.group.now (record {
      marked = c.marker_at.result;
      number = c.args.behind.packets;
      first = c.args.behind.blocks;
      stride = 1;
      index = 0;
    }) c.blocks-2.result.now c.carried_len-count.result c.requires.group (omega (arith, some))
    c.carried_len-count.ensures.most c.blocks-2.ensures.present refl refl

pub returns-in-Err : goal.returns-in-Err
returns-in-Err g c =
    let s = c.args.plan.now in
    let y = c.args.behind in
    let some = c.if-count-eq0.false in
    part_put g.P.PacketSink c.args.out.now c.send.new.out _ _ c.send.result c.in-Err.failed c.send.ensures c.in-Err.is
    (piece_one s y c.args.group.now c.carried_len-count.result c.marker_at.result c.blocks-2.result.now c.requires.single
    c.requires.some c.carried_len-count.ensures.trims (omega (arith, some)) c.marker_at.ensures c.blocks-2.ensures.cells)

pub returns : goal.returns
returns g c =
    let s = c.args.plan.now in
    let y = c.args.behind in
    let some = c.if-count-eq0.false in
    one_put g.P.PacketSink c.args.out.now c.send.new.out _ _ c.send.result c.in_default.field-0 c.send.ensures
    c.in_default.is
    (piece_one s y c.args.group.now c.carried_len-count.result c.marker_at.result c.blocks-2.result.now c.requires.single
    c.requires.some c.carried_len-count.ensures.trims (omega (arith, some)) c.marker_at.ensures c.blocks-2.ensures.cells)
