use Rattle.store_laws.proofs.Ended.{end_cuts, nothing_shown, same_blocks}
use Rattle.store_laws.proofs.edges.a_part_of_a_block_shows_nothing.Goals as goal

pub returns : goal.returns
returns c = record { shown = nothing_shown; blocks = same_blocks; end = end_cuts }
