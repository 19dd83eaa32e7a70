use Rattle.std.proofs.Common.{subst, sym}
use Rattle.stream_engine.specs.Reading.{Begun}
use Rattle.stream_engine.proofs.Stops.{begun_by}
use Rattle.stream_engine.proofs.turns.begin.Goals as goal

pub returns-clause-begun : goal.returns-clause-begun
returns-clause-begun g c = λ s limit f.
    subst (Begun g.I.Source s limit c.args.input.now c.begin.new.source c.begin.new.self) (sym c.end_on.ensures)
    (begun_by g.I.Source s limit c.args.input.now c.begin.new.source c.args.reader.now c.begin.new.self f
    c.requires.fresh c.begin.result c.begin.ensures.exact c.begin.ensures.began c.begin.ensures.left)
