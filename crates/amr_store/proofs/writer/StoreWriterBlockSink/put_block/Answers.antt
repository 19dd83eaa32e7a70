use Rattle.amr_store.proofs.Blocks.{types_fit}
use Rattle.amr_store.proofs.writer.StoreWriterBlockSink.put_block.Goals as goal

pub write_cells-requires : goal.write_cells-requires
write_cells-requires g c = types_fit c.args.self.now.codec c.args.cells.now c.requires.block.block.frames
