use Rattle.std.proofs.Common.{◌≡◌, ◌+◌, ◌++◌, ap, ◌∙◌, sym, refl, arith}
use Rattle.amr_frame.specs.Blocks.{frames_of}
use Rattle.amr_sender.proofs.Begun.{one_further}
use Rattle.amr_sender.proofs.Putting.{all_put, full_turns, held_split, kept_more, put_more, put_stops, turn_frames}
use Rattle.amr_sender.specs.Held.{held_of, held_packets, kept, marks_in, turn_in, turns_in}
use Rattle.amr_sender.specs.Packets.{packet_with}
use Rattle.amr_sender.specs.declared.packet.Head.{Head}
use Rattle.amr_sender.proofs.groups.put_group.Goals as goal

pub returns-in-Err : goal.returns-in-Err
returns-in-Err g c =
    let s = c.args.plan.now in
    let y = c.args.behind in
    let v = c.args.group.now in
    let held = held_of v in
    let i = c.loop-index.index in
    let head : Head = record {
      marked = c.marker_at.result;
      number = y.packets + c.loop-index.sent;
      first = y.blocks + c.from.result;
      stride = s.length;
      index = i;
    } in
    let at = c.from-at.ensures in
    let first = c.from.ensures in
    let frames = frames_of c.packet.new.out in
    let more = kept_more s y held (turns_in s i) (turn_in s i) head frames c.loop-index.sent c.requires.several
    c.loop-index.invariant.count (record {
      marked = c.marker_at.ensures ∙ ap (λ k. marks_in s.profile.codec y.spoken held k) at;
      number = refl;
      first = ap (λ k. y.blocks + k) first;
      stride = refl;
      index = refl;
    }) (turn_frames s v c.packet.new.out i c.requires.group c.packet.ensures.blocks) in
    let split = held_split s y held (turn_in s) i s.length c.loop-index-test.true in
    put_stops g.P.PacketSink g.met.P.PacketSink.transitive c.args.out.now c.loop-index.out c.send_kept.new.out
    (held_packets s y held (turns_in s i)) (kept s frames (packet_with s head frames)) split.0 _
    c.send_kept.result c.in-Err.failed c.loop-index.invariant.put c.send_kept.ensures.put c.in-Err.is
    (ap (held_packets s y held) (sym (full_turns s _ s.length c.requires.several refl)) ∙ split.1
    ∙ ap (λ l. l ++ split.0) more)

pub loop-index-preserved : goal.loop-index-preserved
loop-index-preserved g c =
    let s = c.args.plan.now in
    let y = c.args.behind in
    let v = c.args.group.now in
    let held = held_of v in
    let i = c.loop-index.index in
    let head : Head = record {
      marked = c.marker_at.result;
      number = y.packets + c.loop-index.sent;
      first = y.blocks + c.from.result;
      stride = s.length;
      index = i;
    } in
    let at = c.from-at.ensures in
    let first = c.from.ensures in
    let frames = frames_of c.packet.new.out in
    let more = kept_more s y held (turns_in s i) (turn_in s i) head frames c.loop-index.sent c.requires.several
    c.loop-index.invariant.count (record {
      marked = c.marker_at.ensures ∙ ap (λ k. marks_in s.profile.codec y.spoken held k) at;
      number = refl;
      first = ap (λ k. y.blocks + k) first;
      stride = refl;
      index = refl;
    }) (turn_frames s v c.packet.new.out i c.requires.group c.packet.ensures.blocks) in
    let next = put_more g.P.PacketSink g.met.P.PacketSink.transitive c.args.out.now c.loop-index.out c.send_kept.new.out
    (held_packets s y held (turns_in s i)) (kept s frames (packet_with s head frames))
    (held_packets s y held (turns_in s (i + 1))) c.send_kept.result c.loop-index.sent c.in-Ok.count
    c.loop-index.invariant.put c.loop-index.invariant.count c.send_kept.ensures.put c.in-Ok.is
    (ap (held_packets s y held) (one_further (turn_in s) i) ∙ more) in
    let few = c.loop-index.invariant.few in
    let most = c.in-Ok.ensures.most in
    record {
      put = next.0;
      count = next.1;
      few = omega (arith, few, most);
      cells = c.packet.auto.out ∙ c.loop-index.invariant.cells;
      room = c.send_kept.auto.room ∙ c.loop-index.invariant.room;
    }

pub returns : goal.returns
returns g c =
    let s = c.args.plan.now in
    let low = c.loop-index-test.false in
    let high = c.loop-index.auto.index-end in
    let end : c.loop-index.index ≡ s.length = omega (arith, low, high) in
    all_put g.P.PacketSink c.args.out.now c.loop-index.out _ _ c.loop-index.sent c.loop-index.invariant.put
    c.loop-index.invariant.count
    (ap (held_packets s c.args.behind (held_of c.args.group.now)) (full_turns s _ c.loop-index.index c.requires.several end))
