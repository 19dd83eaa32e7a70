use Rattle.std.proofs.Common.{rules}
use Rattle.amr_frame.proofs.memory_blocks.MemoryBlocks.blocks.Goals as goal

pub returns-clause-whole : goal.returns-clause-whole
returns-clause-whole c = (c.self.inside.count, search rules, search rules)
