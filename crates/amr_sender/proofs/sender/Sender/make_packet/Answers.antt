use Rattle.std.proofs.Common.{◌≡◌, ◌+◌, [], ◌∷◌, not, map, sym, ap, ◌∙◌, subst}
use Rattle.std.specs.Prelude.{◌&&◌}
use Rattle.amr_frame.specs.Blocks.{frames_of}
use Rattle.amr_sender.proofs.Singly.{frame_own, made_single, none_held, with_single}
use Rattle.amr_sender.proofs.Steps.{ready}
use Rattle.amr_sender.specs.Held.{held_of}
use Rattle.amr_sender.specs.Sender.{View, view_of}
use Rattle.amr_sender.specs.Single.{Makes, SendsSingly}
use Rattle.spec_store.specs.StorageReading.{frame_in}
use Rattle.amr_sender.proofs.sender.Sender.make_packet.Goals as goal

pub returns-clause-made : goal.returns-clause-made
returns-clause-made c =
    let s = c.self.inside in
    let unit = c.args.unit.now in
    let inv = c.self.invariant in
    let takes = ready s c.args.self.now c.self.view_is c.requires.takes in
    let single = subst (λ (v : View). SendsSingly v.plan) (sym c.self.view_is) c.requires.single in
    let none : held_of s.group ≡ [] = ap (map frames_of) (none_held s inv takes.unspent single) in
    let f = frame_in s.plan.profile.codec unit in
    let out = c.write_single-size.new.out in
    let size = c.write_single-size.result in
    let after : View = record {
      plan = s.plan;
      held = held_of s.group;
      blocks = s.blocks + 1;
      packets = s.packets + 1;
      spoken = c.unit_speaks-speech.result;
      spent = s.spent;
    } in
    let same : after ≡ with_single (view_of s) f = λ i. record {
      plan = s.plan;
      held = none i;
      blocks = s.blocks + 1;
      packets = s.packets + 1;
      spoken = c.unit_speaks-speech.ensures i;
      spent = takes.unspent i;
    } in
    subst (λ (o : View). Makes o after (frame_in o.plan.profile.codec unit ∷ []) out size) c.self.view_is
    (made_single (view_of s) after f out size c.begins_talkspurt.result inv.plan single none
    (c.begins_talkspurt.ensures ∙ ap (λ b. b && not s.spoken) c.unit_speaks-speech.ensures)
    c.write_single-size.ensures.octets same)

pub returns-clause-own : goal.returns-clause-own
returns-clause-own c = λ own more e whole.
    frame_own c.args.self.now.plan.profile.codec c.args.unit.now own more e whole
