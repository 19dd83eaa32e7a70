use Rattle.std.proofs.Common.{◌∙◌, subst}
use Rattle.run_report.specs.Written.{Writes}
use Rattle.run_report.proofs.Fronts.{writes_once}
use Rattle.trial_engine.proofs.summary.write_line.Goals as goal

pub returns : goal.returns
returns g c =
    let is = c.as_bytes.ensures.value ∙ c.as_str.ensures.value in
    let wrote = c.write_whole.ensures in
    subst (λ text. Writes g.O.Sink text c.args.output.now c.write_whole.new.sink c.write_whole.result) is
    (writes_once g.O.Sink c.as_bytes.result.now c.args.output.now c.write_whole.new.sink c.write_whole.result
    wrote.whole wrote.part wrote.empty
    (record { cause = wrote.cause; beside = wrote.beside; same = wrote.same }))
