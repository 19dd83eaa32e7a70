use Rattle.std.proofs.Common.{◌+◌, ◌*◌, ◌/◌, ◌%◌, ◌∙◌, arith, get_or}
use Rattle.std.proofs.lemmas.List.{length-set}
use Rattle.amr_bits.specs.Bits.{number_at}
use Rattle.amr_bits.proofs.Copied.{fill_step}
use Rattle.amr_sender.proofs.Packed.{across_six}
use Rattle.amr_sender.proofs.single.block_at.Goals as goal

pub loop-step-preserved : goal.loop-step-preserved
loop-step-preserved c =
    let octets = c.args.unit.now in
    let step = c.loop-step.step in
    let place = c.args.at + step in
    let value = get_or octets place 0 % 4 * 64 + get_or octets (place + 1) 0 / 4 in
    record {
      size = length-set c.loop-step.made step value ∙ c.loop-step.invariant.size;
      made = fill_step (λ k. number_at octets (8 * (c.args.at + k) + 6) 8) c.loop-step.made step value (omega arith)
          (across_six octets place (omega (arith, c.type_inv.unit place)) (omega (arith, c.type_inv.unit (place + 1))))
          c.loop-step.invariant.made;
    }
