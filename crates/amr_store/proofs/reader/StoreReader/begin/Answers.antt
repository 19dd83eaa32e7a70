use Rattle.amr_store.proofs.Settled.{began, same_through}
use Rattle.amr_store.proofs.Told.{header_exact}
use Rattle.amr_store.proofs.reader.StoreReader.begin.Goals as goal

pub returns-clause-began : goal.returns-clause-began
returns-clause-began g c =
    began g.S.Source c.args.source.now c.seek-found.new.source c.args.self.now c.seek-found.new.self c.settle.new.self
    c.seek-found.result c.settle.result
    c.seek-found.ensures.sought c.settle.ensures.settles c.requires.fresh

pub returns-clause-exact : goal.returns-clause-exact
returns-clause-exact g c =
    let was = began g.S.Source c.args.source.now c.seek-found.new.source c.args.self.now c.seek-found.new.self
    c.settle.new.self c.seek-found.result c.settle.result
    c.seek-found.ensures.sought c.settle.ensures.settles c.requires.fresh in
    header_exact (g.S.Source.left c.args.source.now) (g.S.Source.left c.seek-found.new.source) c.args.self.now
    c.settle.new.self c.settle.result c.requires.fresh was
    (same_through c.args.self.now c.seek-found.new.self c.settle.new.self c.seek-found.ensures.sought.same
    c.settle.ensures.settles.same)
