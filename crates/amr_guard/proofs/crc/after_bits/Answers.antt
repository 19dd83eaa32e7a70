use Rattle.std.proofs.Common.{◌*◌, ◌%◌, ◌^◌, ap, ◌∙◌, arith}
use Rattle.std.specs.Prelude.{bit_xor}
use Rattle.amr_guard.proofs.Registers.{crc_more, looked_up}
use Rattle.amr_guard.proofs.crc.after_bits.Goals as goal

pub overflow_cast-register-2 : goal.overflow_cast-register-2
overflow_cast-register-2 c = omega (arith, looked_up c.args.count c.args.register c.args.more c.requires.few (omega arith) c.requires.below)

pub returns : goal.returns
returns c a bits is l value =
    ap (λ n. bit_xor n (c.args.register * 2 ^ c.args.count % 256)) c.crc_of_octet.ensures
    ∙ crc_more a bits c.args.count c.args.register c.args.more (omega arith) is l value
