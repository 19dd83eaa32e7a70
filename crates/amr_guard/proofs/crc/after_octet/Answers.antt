use Rattle.std.proofs.Common.{◌≡◌, ◌*◌, ◌%◌, ◌/◌, ◌-◌, ◌^◌, ap, sym, ◌∙◌, arith}
use Rattle.std.specs.Prelude.{bit_xor}
use lib.Bits.{xor_zero_r}
use Rattle.amr_guard.proofs.Registers.{of_octet, crc_more}
use Rattle.amr_guard.proofs.crc.after_octet.Goals as goal

pub returns : goal.returns
returns c a bits is l value =
    let r = c.args.register in
    let same : r / 2 ^ (8 - 8) ≡ r = omega arith in
    let none : r * 2 ^ 8 % 256 ≡ 0 = omega arith in
    c.crc_of_octet.ensures ∙ sym (ap (λ n. bit_xor (of_octet (bit_xor n c.args.octet)) (r * 2 ^ 8 % 256)) same
    ∙ ap (bit_xor (of_octet (bit_xor r c.args.octet))) none ∙ xor_zero_r (of_octet (bit_xor r c.args.octet)))
    ∙ crc_more a bits 8 r c.args.octet (omega arith) is l value
