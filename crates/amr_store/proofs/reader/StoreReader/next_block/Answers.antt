use Rattle.amr_store.proofs.Looked.{found_within}
use Rattle.amr_store.proofs.Settled.{counts, no_read, same_through, went_on}
use Rattle.amr_store.proofs.Told.{next_exact}
use Rattle.amr_store.proofs.reader.StoreReader.next_block.Goals as goal

pub returns-clause-went_on : goal.returns-clause-went_on
returns-clause-went_on g c =
    went_on g.S.Source c.args.source.now c.seek-found.new.source c.args.self.now c.seek-found.new.self
    c.settle.new.self c.seek-found.result c.settle.result
    c.args.cells.now c.fill_cells.new.cells c.seek-found.ensures.sought c.fill_cells.ensures.fills
    c.settle.ensures.settles c.requires.cells

pub returns-clause-counts : goal.returns-clause-counts
returns-clause-counts g c =
    counts g.S.Source c.args.source.now c.seek-found.new.source c.args.self.now c.seek-found.new.self
    c.settle.new.self c.seek-found.result c.settle.result
    c.args.cells.now c.fill_cells.new.cells c.seek-found.ensures.sought c.fill_cells.ensures.fills
    c.settle.ensures.settles
    (found_within g.S.Source c.args.source.now c.seek-found.new.source c.args.self.now c.seek-found.new.self
    c.seek-found.result c.seek-found.ensures.sought)

pub returns-clause-no_read : goal.returns-clause-no_read
returns-clause-no_read g c =
    no_read g.S.Source c.args.source.now c.seek-found.new.source c.args.self.now c.seek-found.new.self
    c.seek-found.result c.settle.result c.seek-found.ensures.sought c.settle.ensures.settles.answer

pub returns-clause-exact : goal.returns-clause-exact
returns-clause-exact g c = λ front given.
    let was = went_on g.S.Source c.args.source.now c.seek-found.new.source c.args.self.now c.seek-found.new.self
    c.settle.new.self c.seek-found.result c.settle.result
    c.args.cells.now c.fill_cells.new.cells c.seek-found.ensures.sought c.fill_cells.ensures.fills
    c.settle.ensures.settles c.requires.cells front given in
    next_exact front (g.S.Source.left c.args.source.now) (g.S.Source.left c.seek-found.new.source) c.args.self.now
    c.settle.new.self c.settle.result c.fill_cells.new.cells given was
    (same_through c.args.self.now c.seek-found.new.self c.settle.new.self c.seek-found.ensures.sought.same
    c.settle.ensures.settles.same)
