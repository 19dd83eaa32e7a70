use Rattle.std.proofs.Common.{◌≡◌, ◌+◌, ◌*◌, sym, ◌∙◌, arith}
use Rattle.std.proofs.lemmas.List.FromFn.{fill_by_all}
use Rattle.amr_bits.specs.Bits.{number_at}
use Rattle.amr_bits.proofs.Places.{number_at-across}
use Rattle.amr_bits.proofs.Copied.{fill_step}
use Rattle.amr_bits.proofs.copying.copy_each.Goals as goal

pub loop-at-preserved : goal.loop-at-preserved
loop-at-preserved c =
    let octets = c.args.octets.now in
    let at = c.loop-at.at in
    let here : c.across.result ≡ number_at octets (8 * at + c.args.shift) 8 =
    c.across.ensures ∙ sym (number_at-across octets at c.args.shift (omega arith) (omega (arith, c.type_inv.octets at)) (omega (arith, c.type_inv.octets (at + 1)))) in
    fill_step (λ k. number_at octets (8 * k + c.args.shift) 8) c.loop-at.out at c.across.result (omega arith) here c.loop-at.invariant

pub returns : goal.returns
returns c =
    fill_by_all (λ k. number_at c.args.octets.now (8 * k + c.args.shift) 8) c.loop-at.out _ 0 (omega arith) (λ k l. c.loop-at.invariant k (omega arith))
