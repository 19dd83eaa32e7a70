use Rattle.std.proofs.Common.{◌∙◌, ap, arith}
use Rattle.amr_bits.specs.Bits.{number}
use Rattle.amr_bits.proofs.Runs.{run-part}
use Rattle.amr_toc.proofs.header.interleaving_number.Goals as goal

pub returns-clause-bits : goal.returns-clause-bits
returns-clause-bits c = c.number.ensures.bits ∙ ap number (run-part c.args.octets.now 8 c.args.at 4 8 (omega arith))
