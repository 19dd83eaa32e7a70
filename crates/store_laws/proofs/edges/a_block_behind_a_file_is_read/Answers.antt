use Rattle.store_laws.proofs.Behind.{block_read}
use Rattle.store_laws.proofs.edges.a_block_behind_a_file_is_read.Goals as goal

pub returns : goal.returns
returns c = block_read
