use Rattle.amr_store.proofs.Blocks.{types_fit}
use Rattle.trial_engine.proofs.file_sum.FileSumBlockSink.put_block.Goals as goal

pub add_cells-requires : goal.add_cells-requires
add_cells-requires c = types_fit c.args.self.now.codec c.args.cells.now c.requires.block.block.frames
