use Rattle.std.proofs.Common.{◌≡◌, ◌++◌, map, ap, ◌∙◌, rules}
use Rattle.std.proofs.lemmas.List.{map-append}
use Rattle.amr_frame.specs.Cells.{held}
use Rattle.amr_frame.proofs.BlocksLemmas.{map-held}
use Rattle.amr_frame.proofs.memory_blocks.MemoryBlocksBlockSink.put_block.Goals as goal

pub returns-clause-whole : goal.returns-clause-whole
returns-clause-whole c =
    let items : c.extend_from_slice.new.self.items ≡ c.args.self.now.cells ++ c.args.cells.now = search rules in
    ap (map held) items ∙ map-append held c.args.self.now.cells c.args.cells.now
    ∙ ap (λ added. map held c.args.self.now.cells ++ added) (map-held c.args.cells.now c.requires.block.present)
