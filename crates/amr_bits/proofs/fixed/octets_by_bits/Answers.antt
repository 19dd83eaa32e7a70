use Rattle.std.proofs.Common.{arith}
use Rattle.amr_bits.proofs.Equal.{same_octets}
use Rattle.amr_bits.proofs.fixed.octets_by_bits.Goals as goal

pub returns : goal.returns
returns c = λ l h. same_octets c.args.octets.now c.args.others.now l (λ k. omega (arith, c.type_inv.octets k)) (λ k. omega (arith, c.type_inv.others k)) h
