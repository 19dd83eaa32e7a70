use Rattle.std.proofs.Common.{◌+◌, ◌*◌, ◌∙◌, cond, ltb, arith, min}
use Rattle.std.proofs.lemmas.List.{length-set}
use Rattle.amr_bits.proofs.Copied.{fill_step}
use Rattle.amr_bits.proofs.Places.{number_at-lt}
use Rattle.plain_packet.specs.Plain.{octet_in}
use Rattle.plain_packet.proofs.Masking.{masked}
use Rattle.plain_packet.proofs.load.block_at.Goals as goal

pub loop-step-preserved : goal.loop-step-preserved
loop-step-preserved c =
    let payload = c.args.payload.now in
    let step = c.loop-step.step in
    let place = c.args.at + step in
    record {
      size = length-set c.loop-step.made step c.min.result ∙ c.loop-step.invariant.size;
      made = fill_step (λ k. cond (ltb (c.args.at + k) c.args.full) (octet_in payload (c.args.at + k)) 0)
          c.loop-step.made step c.min.result (omega arith)
          (c.min.ensures ∙ (λ i. min (c.octet_at.ensures i) (c.mask_at.ensures i))
          ∙ masked (ltb place c.args.full) (octet_in payload place) (number_at-lt payload (8 * place + 10) 8))
          c.loop-step.invariant.made;
    }
