use Rattle.std.proofs.Common.{arith}
use Rattle.rtp_packet.proofs.Small.{numbers_of}
use Rattle.rtp_packet.proofs.fit.are_numbers.Goals as goal

pub returns : goal.returns
returns c = numbers_of c.args.sources.now (λ i. omega (arith, c.type_inv.sources i))
