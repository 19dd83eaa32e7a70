use Rattle.std.proofs.Common.{subst, sym, Ok, Err}
use Rattle.run_report.specs.Lines.{count_lines, record_line, sent_line}
use Rattle.run_report.specs.Written.{Writes}
use Rattle.run_report.proofs.Fronts.{writes_both, writes_first}
use Rattle.run_report.proofs.notes.write_counts.Goals as goal

pub returns-in-Ok : goal.returns-in-Ok
returns-in-Ok g c =
    let k = g.E.Sink in
    let first = c.args.notes.now in
    let mid = c.write_line-in-Converting.new.notes in
    let last = c.write_line-in-Ok.new.notes in
    let counts = c.args.counts.now in
    subst (λ l. Writes k (count_lines l counts) first last c.write_line-in-Ok.result) (sym c.in-Converting.is)
    (writes_both k g.met.E.Sink.transitive (record_line counts) (sent_line counts) first mid last
    c.write_line-in-Ok.result
    (subst (λ t. Writes k t first mid (Ok c.in-Ok.field-0)) c.gather_record-in-Converting.ensures c.in-Ok.ensures)
    (subst (λ t. Writes k t mid last c.write_line-in-Ok.result) c.gather_sent-in-Ok.ensures c.write_line-in-Ok.ensures))

pub returns-in-Err : goal.returns-in-Err
returns-in-Err g c =
    let k = g.E.Sink in
    let first = c.args.notes.now in
    let mid = c.write_line-in-Converting.new.notes in
    let counts = c.args.counts.now in
    subst (λ l. Writes k (count_lines l counts) first mid (Err c.in-Err.failed)) (sym c.in-Converting.is)
    (writes_first k (record_line counts) (sent_line counts) first mid c.in-Err.failed
    (subst (λ t. Writes k t first mid (Err c.in-Err.failed)) c.gather_record-in-Converting.ensures c.in-Err.ensures))
