use Rattle.std.proofs.Common.{length, arith}
use Rattle.amr_bits.proofs.Copied.{copied_even}
use Rattle.amr_bits.proofs.copying.copy_octets.Goals as goal

pub returns-then-start-eq0 : goal.returns-then-start-eq0
returns-then-start-eq0 c =
    copied_even c.args.octets.now c.copy_from_slice.new.self (length c.args.out.now) c.args.start c.if-start-eq0.true (omega arith) (λ k. omega (arith, c.type_inv.octets k)) c.copy_from_slice.ensures.after
