use Rattle.std.proofs.Common.{◌≡◌, ◌+◌, ◌-◌, ◌<◌, length, map, ap, sym, ◌∙◌, subst, refl, arith, true, false, List}
use Rattle.std.proofs.lemmas.List.{length-drop}
use Rattle.amr_frame.specs.Blocks.{GotBlocks, GotPrefix, frames_of}
use Rattle.amr_frame.specs.Frames.{Frame}
use Rattle.amr_group.specs.Buffer.{View as Group}
use Rattle.amr_sender.proofs.Plans.{facts}
use Rattle.amr_sender.proofs.Putting.{full_most}
use Rattle.amr_sender.proofs.Results.{on_err}
use Rattle.amr_sender.proofs.Steps.{after_is, completes, count_kept, count_more, fresh_more, fresh_none, full_with, gone_is, group_of, held_more_of, less, one_more, outs, packets_within, passed, ready, whole}
use Rattle.amr_sender.proofs.Taken.{takes_held, takes_part, takes_sent, with_sent}
use Rattle.amr_sender.specs.Held.{held_of}
use Rattle.amr_sender.specs.Sender.{View, view_of}
use Rattle.amr_sender.specs.Sends.{Takes, TakesPart}
use Rattle.amr_sender.specs.declared.packet.Behind.{Behind}
use Rattle.rtp_packet.specs.Written.{written}
use Rattle.amr_sender.proofs.sender.Sender.put_block.Goals as goal

pub invariant_of-self : goal.invariant_of-self
invariant_of-self g c =
    let s = c.self.inside in
    let inv = c.self.invariant in
    let takes = ready s c.args.self.now c.self.view_is c.requires.takes in
    let size = c.group_size.ensures in
    let test = c.if-self-group_size.true in
    let lt : s.fresh + 1 < whole s = omega (arith, size, test) in
    let more = one_more s c.args.cells.now c.add.new.self c.add.ensures in
    let few = takes.few in
    let packets = inv.packets takes.unspent in
    record {
      plan = inv.plan;
      group = group_of s c.args.cells.now c.add.new.self inv c.add.ensures;
      octets = inv.octets;
      cells = inv.cells;
      blocks = omega (arith, few);
      packets = λ e. omega (arith, packets);
      fresh = λ e. fresh_more s inv takes.unspent lt;
      count = λ e. more ∙ count_more s inv takes.unspent lt;
    }

pub returns-then-self-group_size-clause-taken : goal.returns-then-self-group_size-clause-taken
returns-then-self-group_size-clause-taken g c =
    let s = c.self.inside in
    let inv = c.self.invariant in
    let takes = ready s c.args.self.now c.self.view_is c.requires.takes in
    let size = c.group_size.ensures in
    let test = c.if-self-group_size.true in
    let fresh = inv.fresh takes.unspent in
    let x = frames_of c.args.cells.now in
    let held = held_more_of s c.args.cells.now c.add.new.self c.add.ensures in
    let w : List (List Frame) → View = λ l. record (view_of s) { held = l; blocks = s.blocks + 1 } in
    subst (λ (o : View). Takes g.P.PacketSink o (w (held_of c.add.new.self)) x c.args.out.now c.args.out.now) c.self.view_is
    (subst (λ l. Takes g.P.PacketSink (view_of s) (w l) x c.args.out.now c.args.out.now) (sym held)
    (takes_held g.P.PacketSink c.args.out.now (view_of s) x inv.plan takes.unspent (omega (arith, size, test, fresh))))

pub put_full-requires-clause-group : goal.put_full-requires-clause-group
put_full-requires-clause-group g c =
    let s = c.self.inside in
    let inv = c.self.invariant in
    let takes = ready s c.args.self.now c.self.view_is c.requires.takes in
    let size = c.group_size.ensures in
    let test = c.if-self-group_size.false in
    let lt = less s inv takes.unspent in
    full_with s c.args.cells.now c.add.new.self inv takes.unspent c.add.ensures (omega (arith, size, test, lt))

pub returns-in_err-sent-clause-part : goal.returns-in_err-sent-clause-part
returns-in_err-sent-clause-part g c =
    let s = c.self.inside in
    let inv = c.self.invariant in
    let takes = ready s c.args.self.now c.self.view_is c.requires.takes in
    let size = c.group_size.ensures in
    let test = c.if-self-group_size.false in
    let lt = less s inv takes.unspent in
    let eq : s.fresh + 1 ≡ whole s = omega (arith, size, test, lt) in
    let old = c.args.out.now in
    let new = c.put_full.new.out in
    let x = frames_of c.args.cells.now in
    let y : Behind = record { spoken = s.spoken; packets = s.packets; blocks = s.blocks + 1 - c.len.result } in
    let w : View = record (view_of s) { held = held_of c.add.new.self; blocks = s.blocks + 1; spent = true } in
    let part = subst (λ l. GotPrefix g.P.PacketSink.whole g.P.PacketSink.part old (map written l) new)
    (outs s c.args.cells.now c.add.new.self y c.add.ensures) c.in_err-sent.ensures.put.part in
    on_err c.from_residual.result _
    (subst (λ (o : View). TakesPart g.P.PacketSink o w x old new) c.self.view_is
    (takes_part g.P.PacketSink old new (view_of s) w x y
    (completes s c.args.cells.now c.add.new.self c.len.result inv takes.unspent c.add.ensures eq c.len.ensures.exact)
    part refl))

pub overflow_add-self-3 : goal.overflow_add-self-3
overflow_add-self-3 g c =
    let s = c.self.inside in
    let inv = c.self.invariant in
    let takes = ready s c.args.self.now c.self.view_is c.requires.takes in
    let y : Behind = record { spoken = s.spoken; packets = s.packets; blocks = s.blocks + 1 - c.len.result } in
    let k = facts s.plan inv.plan in
    let most = full_most s.plan y (held_of c.add.new.self) (length c.add.new.self.blocks) k.length in
    let count = c.in_ok-sent.ensures.count in
    let turns = k.turns in
    let packets = inv.packets takes.unspent in
    let blocks = inv.blocks in
    omega (arith, most, count, turns, packets, blocks)

pub invariant_of-self-2 : goal.invariant_of-self-2
invariant_of-self-2 g c =
    let s = c.self.inside in
    let inv = c.self.invariant in
    let takes = ready s c.args.self.now c.self.view_is c.requires.takes in
    let size = c.group_size.ensures in
    let test = c.if-self-group_size.false in
    let lt = less s inv takes.unspent in
    let eq : s.fresh + 1 ≡ whole s = omega (arith, size, test, lt) in
    let y : Behind = record { spoken = s.spoken; packets = s.packets; blocks = s.blocks + 1 - c.len.result } in
    let most = full_most s.plan y (held_of c.add.new.self) (length c.add.new.self.blocks) (facts s.plan inv.plan).length in
    let count = c.in_ok-sent.ensures.count in
    let within = packets_within s c.in_ok-sent.sent inv takes.unspent eq (omega (arith, most, count)) in
    let few = takes.few in
    let more = one_more s c.args.cells.now c.add.new.self c.add.ensures in
    let goes = c.saturating_sub-gone.ensures in
    let len = c.len-2.ensures.exact in
    let again = c.from.ensures in
    let kept = ap (λ (o : Group). length o.blocks) c.pass.ensures ∙ length-drop c.saturating_sub-gone.result c.add.new.self.blocks in
    record {
      plan = inv.plan;
      group = passed s c.args.cells.now c.add.new.self c.pass.new.self c.saturating_sub-gone.result inv c.add.ensures
          c.pass.ensures;
      octets = inv.octets;
      cells = inv.cells;
      blocks = omega (arith, few);
      packets = λ e. omega (arith, within);
      fresh = λ e. fresh_none s inv takes.unspent eq;
      count = λ e. count_kept s (length c.pass.new.self.blocks) c.saturating_sub-gone.result (length c.add.new.self.blocks)
          inv takes.unspent eq more (omega (arith, goes, len, again)) kept;
    }

pub returns-clause-taken : goal.returns-clause-taken
returns-clause-taken g c =
    let s = c.self.inside in
    let inv = c.self.invariant in
    let takes = ready s c.args.self.now c.self.view_is c.requires.takes in
    let size = c.group_size.ensures in
    let test = c.if-self-group_size.false in
    let lt = less s inv takes.unspent in
    let eq : s.fresh + 1 ≡ whole s = omega (arith, size, test, lt) in
    let old = c.args.out.now in
    let new = c.put_full.new.out in
    let x = frames_of c.args.cells.now in
    let y : Behind = record { spoken = s.spoken; packets = s.packets; blocks = s.blocks + 1 - c.len.result } in
    let got = subst (λ l. GotBlocks g.P.PacketSink.whole old (map written l) new)
    (outs s c.args.cells.now c.add.new.self y c.add.ensures) c.in_ok-sent.ensures.put.whole in
    let after : View = record {
      plan = s.plan;
      held = held_of c.pass.new.self;
      blocks = s.blocks + 1;
      packets = s.packets + c.in_ok-sent.sent;
      spoken = c.spoken_before-self-inside.result;
      spent = false;
    } in
    let same : with_sent (view_of s) y x ≡ after =
    after_is s c.args.cells.now c.add.new.self c.pass.new.self c.saturating_sub-gone.result c.in_ok-sent.sent
    c.spoken_before-self-inside.result y c.add.ensures c.pass.ensures
    (gone_is s c.args.cells.now c.add.new.self c.saturating_sub-gone.result c.len-2.result c.from.result c.add.ensures
    c.saturating_sub-gone.ensures c.len-2.ensures.exact c.from.ensures)
    c.in_ok-sent.ensures.count c.spoken_before-self-inside.ensures in
    subst (λ (o : View). Takes g.P.PacketSink o after x old new) c.self.view_is
    (subst (λ (w : View). Takes g.P.PacketSink (view_of s) w x old new) same
    (takes_sent g.P.PacketSink old new (view_of s) x y
    (completes s c.args.cells.now c.add.new.self c.len.result inv takes.unspent c.add.ensures eq c.len.ensures.exact) got))
