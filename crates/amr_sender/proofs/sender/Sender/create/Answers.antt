use Rattle.std.proofs.Common.{◌≡◌, ◌*◌, arith, ap, refl, length}
use Rattle.amr_group.specs.Buffer.{View as Group}
use Rattle.amr_sender.proofs.Counting.{none_behind}
use Rattle.amr_sender.proofs.Plans.{facts, most_blocks, some_group}
use Rattle.amr_sender.proofs.Taken.{fresh}
use Rattle.amr_sender.specs.Held.{held_of}
use Rattle.amr_sender.proofs.sender.Sender.create.Goals as goal

pub invariant_of-groups : goal.invariant_of-groups
invariant_of-groups c =
    let k = facts c.args.plan c.requires in
    record {
      blocks_fit = (k.blocks, most_blocks c.args.plan c.requires);
      length_fits = (k.length, k.turns);
    }

pub returns-clause-stands : goal.returns-clause-stands
returns-clause-stands c =
    fresh _ c.requires refl refl refl
    (ap held_of c.in_ok-group.ensures.empty) refl

pub invariant_of-result : goal.invariant_of-result
invariant_of-result c =
    let none = ap (λ (o : Group). length o.blocks) c.in_ok-group.ensures.empty in
    let len = c.in_ok-cells.ensures.len in
    let one = c.from.ensures in
    let other = c.from-2.ensures in
    let product : c.from.result * c.from-2.result ≡ c.args.plan.blocks * c.args.plan.profile.channels = (λ i. one i *
    other i) in
    record {
      plan = c.requires;
      group = record {
        blocks = ap (λ (o : Group). o.plan.blocks) c.in_ok-group.ensures.empty;
        length = ap (λ (o : Group). o.plan.length) c.in_ok-group.ensures.empty;
        before = ap (λ (o : Group). o.before) c.in_ok-group.ensures.empty;
        codec = ap (λ (o : Group). o.codec) c.in_ok-group.ensures.empty;
        channels = ap (λ (o : Group). o.channels) c.in_ok-group.ensures.empty;
      };
      octets = c.in_ok-room.ensures.len;
      cells = omega (arith, len, product);
      blocks = omega arith;
      packets = λ e. omega arith;
      fresh = λ e. none_behind (c.args.plan.blocks * c.args.plan.length) (some_group c.args.plan c.requires);
      count = λ e. omega (arith, none);
    }
