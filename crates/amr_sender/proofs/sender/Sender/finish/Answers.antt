use Rattle.std.proofs.Common.{◌≡◌, ◌+◌, ◌-◌, ap, ◌∙◌, sym, subst, true, length, map, arith}
use Rattle.std.proofs.lemmas.List.{length-map}
use Rattle.amr_frame.specs.Blocks.{GotBlocks, GotPrefix, frames_of}
use Rattle.amr_sender.proofs.Plans.{facts}
use Rattle.amr_sender.proofs.Putting.{left_most}
use Rattle.amr_sender.proofs.Results.{on_err}
use Rattle.amr_sender.proofs.Steps.{size_so, tells}
use Rattle.amr_sender.proofs.Taken.{ends_part, ends_sent}
use Rattle.amr_sender.specs.Held.{held_of, held_packets, left_in}
use Rattle.amr_sender.specs.declared.packet.Behind.{Behind}
use Rattle.amr_sender.specs.Sender.{View, view_of}
use Rattle.amr_sender.specs.Sends.{Finishes, FinishesPart}
use Rattle.rtp_packet.specs.Written.{written}
use Rattle.amr_sender.proofs.sender.Sender.finish.Goals as goal

pub put_left-requires-clause-fresh : goal.put_left-requires-clause-fresh
put_left-requires-clause-fresh g c =
    let s = c.self.inside in
    let unspent = ap (λ (o : View). o.spent) c.self.view_is ∙ c.requires.unspent in
    (size_so s c.self.invariant unspent).fresh

pub returns-in_err-sent-clause-part : goal.returns-in_err-sent-clause-part
returns-in_err-sent-clause-part g c =
    let s = c.self.inside in
    let inv = c.self.invariant in
    let unspent = ap (λ (o : View). o.spent) c.self.view_is ∙ c.requires.unspent in
    let y : Behind = record { spoken = s.spoken; packets = s.packets; blocks = s.blocks - c.len.result } in
    let size : length s.group.blocks ≡ length (held_of s.group) = sym (length-map s.group.blocks frames_of) in
    let part = subst (λ n. GotPrefix g.P.PacketSink.whole g.P.PacketSink.part c.args.out.now
    (map written (held_packets s.plan y (held_of s.group) (left_in s.plan s.fresh n))) c.put_left.new.out) size
    c.in_err-sent.ensures.put.part in
    on_err c.from_residual.result _
    (subst (λ (o : View). FinishesPart g.P.PacketSink o c.args.out.now c.put_left.new.out) c.self.view_is
    (ends_part g.P.PacketSink c.args.out.now c.put_left.new.out (view_of s) y s.fresh inv.plan (inv.fresh unspent)
    (tells s c.len.result inv unspent c.len.ensures.exact) part))

pub overflow_add-self : goal.overflow_add-self
overflow_add-self g c =
    let s = c.self.inside in
    let inv = c.self.invariant in
    let unspent = ap (λ (o : View). o.spent) c.self.view_is ∙ c.requires.unspent in
    let y : Behind = record { spoken = s.spoken; packets = s.packets; blocks = s.blocks - c.len.result } in
    let most = left_most s.plan y (held_of s.group) s.fresh (length s.group.blocks) (facts s.plan inv.plan).blocks in
    let count = c.in_ok-sent.ensures.count in
    let few = c.len.ensures.few in
    let exact = c.len.ensures.exact in
    let packets = inv.packets unspent in
    let blocks = inv.blocks in
    omega (arith, most, count, few, exact, packets, blocks)

pub returns-clause-finished : goal.returns-clause-finished
returns-clause-finished g c =
    let s = c.self.inside in
    let inv = c.self.invariant in
    let unspent = ap (λ (o : View). o.spent) c.self.view_is ∙ c.requires.unspent in
    let y : Behind = record { spoken = s.spoken; packets = s.packets; blocks = s.blocks - c.len.result } in
    let size : length s.group.blocks ≡ length (held_of s.group) = sym (length-map s.group.blocks frames_of) in
    let got = subst (λ n. GotBlocks g.P.PacketSink.whole c.args.out.now
    (map written (held_packets s.plan y (held_of s.group) (left_in s.plan s.fresh n))) c.put_left.new.out) size
    c.in_ok-sent.ensures.put.whole in
    let count = c.in_ok-sent.ensures.count
    ∙ ap (λ n. length (held_packets s.plan y (held_of s.group) (left_in s.plan s.fresh n))) size in
    let w : View = record (view_of s) { packets = s.packets + c.in_ok-sent.sent; spent = true } in
    subst (λ (o : View). Finishes g.P.PacketSink o w c.args.out.now c.put_left.new.out) c.self.view_is
    (ends_sent g.P.PacketSink c.args.out.now c.put_left.new.out (view_of s) w y s.fresh inv.plan (inv.fresh unspent)
    (tells s c.len.result inv unspent c.len.ensures.exact) got (ap (λ k. s.packets + k) count))
