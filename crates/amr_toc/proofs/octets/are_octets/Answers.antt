use Rattle.std.proofs.Common.{◌<◌, arith}
use Rattle.amr_bits.proofs.Lists.{all_by}
use Rattle.amr_toc.proofs.octets.are_octets.Goals as goal

pub returns : goal.returns
returns c = all_by (λ o. o < 256) c.args.octets.now 0 (λ i l. omega (arith, c.type_inv.octets i))
