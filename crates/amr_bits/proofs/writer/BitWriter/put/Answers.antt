use Rattle.std.proofs.Common.{◌-◌, ◌++◌, arith, ap, ◌∙◌}
use Rattle.amr_bits.specs.Bits.{bits_at}
use Rattle.amr_bits.proofs.Places.{bits-four}
use Rattle.amr_bits.specs.Written.{front}
use Rattle.amr_bits.proofs.writer.BitWriter.put.Goals as goal

pub returns-clause-bits : goal.returns-clause-bits
returns-clause-bits c =
    let width = c.args.width in
    c.put_bits.ensures.bits
    ∙ ap (λ xs. front c.args.out.now c.args.self.now.written ++ xs)
    (ap (λ octets. bits_at octets (32 - width) width) c.to_be_bytes-octets.ensures ∙ bits-four c.args.value width (omega arith) c.requires.value c.requires.width)
