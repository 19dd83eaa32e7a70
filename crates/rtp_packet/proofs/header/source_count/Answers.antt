use Rattle.std.proofs.Common.{[], ◌∷◌, sym, arith}
use Rattle.rtp_packet.proofs.Octets.{low_four}
use Rattle.rtp_packet.proofs.header.source_count.Goals as goal

pub returns-clause-count : goal.returns-clause-count
returns-clause-count c = sym (low_four (c.args.first ∷ []) (omega arith))
