use Rattle.std.proofs.Common.{subst}
use Rattle.run_report.specs.Lines.{count_lines, end_line, told_at}
use Rattle.run_report.specs.Written.{Writes}
use Rattle.run_report.proofs.Fronts.{writes_both, writes_first}
use Rattle.run_report.proofs.notes.write_notes.Goals as goal

pub returns-in-Ok : goal.returns-in-Ok
returns-in-Ok g c =
    let mid = c.write_told.new.notes in
    let report = c.args.report.now in
    writes_both g.E.Sink g.met.E.Sink.transitive
    (told_at report.end (count_lines c.args.lines report.counts)) (end_line report.end)
    c.args.notes.now mid c.write_line.new.notes c.write_line.result
    c.in-Ok.ensures
    (subst (λ t. Writes g.E.Sink t mid c.write_line.new.notes c.write_line.result)
    c.gather_end.ensures c.write_line.ensures)

pub returns-in-Err : goal.returns-in-Err
returns-in-Err g c =
    let report = c.args.report.now in
    writes_first g.E.Sink (told_at report.end (count_lines c.args.lines report.counts)) (end_line report.end)
    c.args.notes.now c.write_told.new.notes c.in-Err.failed c.in-Err.ensures
