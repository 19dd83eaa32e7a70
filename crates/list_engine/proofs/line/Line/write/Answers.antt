use Rattle.std.proofs.Common.{subst, take, List, ℕ}
use Rattle.run_report.proofs.Fronts.{writes_once}
use Rattle.run_report.specs.Written.{Writes}
use Rattle.list_engine.proofs.line.Line.write.Goals as goal

pub returns : goal.returns
returns g c =
    let k = g.O.Sink in
    let old = c.args.output.now in
    let new = c.write_whole.new.sink in
    let wrote = c.write_whole.ensures in
    subst (λ (t : List ℕ). Writes k t old new c.write_whole.result) c.self.view_is
    (subst (λ (room : List ℕ). Writes k (take c.self.inside.used room) old new c.write_whole.result)
    c.deref.ensures.value
    (writes_once k (take c.self.inside.used c.deref.result.now) old new c.write_whole.result
    wrote.whole wrote.part wrote.empty
    (record { cause = wrote.cause; beside = wrote.beside; same = wrote.same })))
