use Rattle.std.proofs.Common.{◌≡◌, ◌+◌, ◌*◌, sym, ◌∙◌, arith}
use Rattle.std.proofs.lemmas.List.{length-set}
use Rattle.amr_bits.specs.Bits.{number_at}
use Rattle.amr_bits.proofs.Places.{number_at-across}
use Rattle.amr_bits.proofs.Copied.{fill_step}
use Rattle.amr_bits.proofs.copying.block_at.Goals as goal

pub loop-step-preserved : goal.loop-step-preserved
loop-step-preserved c =
    let octets = c.args.octets.now in
    let step = c.loop-step.step in
    let place = c.args.at + step in
    let here : c.across.result ≡ number_at octets (8 * place + c.args.shift) 8 =
    c.across.ensures ∙ sym (number_at-across octets place c.args.shift (omega arith) (omega (arith, c.type_inv.octets place)) (omega (arith, c.type_inv.octets (place + 1)))) in
    record {
      size = length-set c.loop-step.made step c.across.result ∙ c.loop-step.invariant.size;
      copied = fill_step (λ k. number_at octets (8 * (c.args.at + k) + c.args.shift) 8) c.loop-step.made step c.across.result (omega arith) here c.loop-step.invariant.copied;
    }
