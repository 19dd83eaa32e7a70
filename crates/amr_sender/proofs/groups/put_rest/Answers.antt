use Rattle.std.proofs.Common.{◌≡◌, ◌+◌, ◌-◌, ◌*◌, ◌++◌, min, ap, ◌∙◌, refl, arith, length}
use Rattle.amr_frame.specs.Blocks.{frames_of}
use Rattle.amr_sender.proofs.Begun.{one_further}
use Rattle.amr_sender.proofs.Putting.{all_put, can_carry, held_split, kept_more, put_more, put_stops, rest_frames, rest_within}
use Rattle.amr_sender.specs.Held.{held_of, held_packets, kept, marks_in, rest_in, rests_in}
use Rattle.amr_sender.specs.Packets.{packet_with}
use Rattle.amr_sender.specs.declared.packet.Head.{Head}
use Rattle.spec_sending.specs.Portions.{pieces}
use Rattle.amr_sender.proofs.groups.put_rest.Goals as goal

pub send_kept-requires-clause-cells : goal.send_kept-requires-clause-cells
send_kept-requires-clause-cells g c =
    let s = c.args.plan.now in
    let v = c.args.group.now in
    let i = c.loop-number.number in
    let at = i * c.from.result in
    let head : Head = record {
      marked = c.marker_at.result;
      number = c.args.behind.packets + c.loop-number.sent;
      first = c.args.behind.blocks + at;
      stride = 1;
      index = 0;
    } in
    let place : at ≡ i * s.blocks = ap (λ k. i * k) c.from.ensures in
    let within = rest_within s (length v.blocks) i c.rest_size-number-end.result c.requires.plan c.rest_size-number-end.ensures.exact
    c.loop-number-test.true in
    can_carry s v head c.blocks-in-loop-number.result.now at c.min-count.result c.requires.plan c.requires.group
    c.blocks-in-loop-number.ensures.present (omega (arith, place, within))
    (c.min-count.ensures ∙ (λ z. min (c.from-in-loop-number.ensures z) (c.len-len.ensures.exact z - at))) refl refl

pub send_kept-requires-clause-first : goal.send_kept-requires-clause-first
send_kept-requires-clause-first g c =
    let s = c.args.plan.now in
    let i = c.loop-number.number in
    let place : i * c.from.result ≡ i * s.blocks = ap (λ k. i * k) c.from.ensures in
    let within = rest_within s (length c.args.group.now.blocks) i c.rest_size-number-end.result c.requires.plan
    c.rest_size-number-end.ensures.exact c.loop-number-test.true in
    let few = c.len-len.ensures.few in
    let exact = c.len-len.ensures.exact in
    let blocks = c.requires.behind.blocks in
    omega (arith, place, within, few, exact, blocks)

pub returns-in-Err : goal.returns-in-Err
returns-in-Err g c =
    let s = c.args.plan.now in
    let y = c.args.behind in
    let v = c.args.group.now in
    let held = held_of v in
    let n = length v.blocks in
    let i = c.loop-number.number in
    let at = i * c.from.result in
    let head : Head = record {
      marked = c.marker_at.result;
      number = y.packets + c.loop-number.sent;
      first = y.blocks + at;
      stride = 1;
      index = 0;
    } in
    let place : at ≡ i * s.blocks = ap (λ k. i * k) c.from.ensures in
    let frames = frames_of c.blocks-in-loop-number.result.now in
    let more = kept_more s y held (rests_in s n i) (rest_in s n i) head frames c.loop-number.sent c.requires.several
    c.loop-number.invariant.count (record {
      marked = c.marker_at.ensures ∙ ap (λ k. marks_in s.profile.codec y.spoken held k) place;
      number = refl;
      first = ap (λ k. y.blocks + k) place;
      stride = refl;
      index = refl;
    }) (rest_frames s v c.blocks-in-loop-number.result.now i at c.min-count.result c.blocks-in-loop-number.ensures.cells place
    (c.min-count.ensures ∙ (λ z. min (c.from-in-loop-number.ensures z) (c.len-len.ensures.exact z - at)))) in
    let exact = c.rest_size-number-end.ensures.exact in
    let lt = c.loop-number-test.true in
    let split = held_split s y held (rest_in s n) i (pieces s.blocks n) (omega (arith, exact, lt)) in
    put_stops g.P.PacketSink g.met.P.PacketSink.transitive c.args.out.now c.loop-number.out c.send_kept.new.out
    (held_packets s y held (rests_in s n i)) (kept s frames (packet_with s head frames)) split.0 _
    c.send_kept.result c.in-Err.failed c.loop-number.invariant.put c.send_kept.ensures.put c.in-Err.is
    (split.1 ∙ ap (λ l. l ++ split.0) more)

pub loop-number-preserved : goal.loop-number-preserved
loop-number-preserved g c =
    let s = c.args.plan.now in
    let y = c.args.behind in
    let v = c.args.group.now in
    let held = held_of v in
    let n = length v.blocks in
    let i = c.loop-number.number in
    let at = i * c.from.result in
    let head : Head = record {
      marked = c.marker_at.result;
      number = y.packets + c.loop-number.sent;
      first = y.blocks + at;
      stride = 1;
      index = 0;
    } in
    let place : at ≡ i * s.blocks = ap (λ k. i * k) c.from.ensures in
    let frames = frames_of c.blocks-in-loop-number.result.now in
    let more = kept_more s y held (rests_in s n i) (rest_in s n i) head frames c.loop-number.sent c.requires.several
    c.loop-number.invariant.count (record {
      marked = c.marker_at.ensures ∙ ap (λ k. marks_in s.profile.codec y.spoken held k) place;
      number = refl;
      first = ap (λ k. y.blocks + k) place;
      stride = refl;
      index = refl;
    }) (rest_frames s v c.blocks-in-loop-number.result.now i at c.min-count.result c.blocks-in-loop-number.ensures.cells place
    (c.min-count.ensures ∙ (λ z. min (c.from-in-loop-number.ensures z) (c.len-len.ensures.exact z - at)))) in
    let next = put_more g.P.PacketSink g.met.P.PacketSink.transitive c.args.out.now c.loop-number.out c.send_kept.new.out
    (held_packets s y held (rests_in s n i)) (kept s frames (packet_with s head frames))
    (held_packets s y held (rests_in s n (i + 1))) c.send_kept.result c.loop-number.sent c.in-Ok.count
    c.loop-number.invariant.put c.loop-number.invariant.count c.send_kept.ensures.put c.in-Ok.is
    (ap (held_packets s y held) (one_further (rest_in s n) i) ∙ more) in
    let few = c.loop-number.invariant.few in
    let most = c.in-Ok.ensures.most in
    record {
      put = next.0;
      count = next.1;
      few = omega (arith, few, most);
      room = c.send_kept.auto.room ∙ c.loop-number.invariant.room;
    }

pub returns : goal.returns
returns g c =
    let s = c.args.plan.now in
    let n = length c.args.group.now.blocks in
    let low = c.loop-number-test.false in
    let high = c.loop-number.auto.number-end in
    let exact = c.rest_size-number-end.ensures.exact in
    let end : c.loop-number.number ≡ pieces s.blocks n = omega (arith, low, high, exact) in
    all_put g.P.PacketSink c.args.out.now c.loop-number.out _ _ c.loop-number.sent c.loop-number.invariant.put
    c.loop-number.invariant.count
    (ap (λ k. held_packets s c.args.behind (held_of c.args.group.now) (rests_in s n k)) end)
