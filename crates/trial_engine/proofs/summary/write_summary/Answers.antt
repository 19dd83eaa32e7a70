use Rattle.std.proofs.Common.{Err, Ok, subst, ◌++◌}
use Rattle.run_report.proofs.Fronts.{writes_both, writes_first}
use Rattle.run_report.specs.Lines.{record_line}
use Rattle.run_report.specs.Written.{Writes}
use Rattle.trial_engine.specs.Outcomes.{made_text, sum_text}
use Rattle.trial_engine.proofs.summary.write_summary.Goals as goal

pub returns-in-Ok-write_record : goal.returns-in-Ok-write_record
returns-in-Ok-write_record g c =
    let k = g.O.Sink in
    let o = c.args.outcome in
    let first = c.args.output.now in
    let second = c.write_line.new.output in
    let third = c.write_record.new.output in
    let last = c.write_line-in-Ok-write_record in
    writes_both k g.met.O.Sink.transitive (made_text o ++ record_line o.counts) (sum_text o.file) first third
    last.new.output last.result
    (writes_both k g.met.O.Sink.transitive (made_text o) (record_line o.counts) first second third (Ok tt)
    (subst (λ t. Writes k t first second (Ok tt)) c.gather_made.ensures c.in-Ok.ensures)
    c.in-Ok-write_record.ensures)
    (subst (λ t. Writes k t third last.new.output last.result) c.gather_sum.ensures last.ensures)

pub returns-in-Err-write_record : goal.returns-in-Err-write_record
returns-in-Err-write_record g c =
    let k = g.O.Sink in
    let o = c.args.outcome in
    let first = c.args.output.now in
    let second = c.write_line.new.output in
    let third = c.write_record.new.output in
    writes_first k (made_text o ++ record_line o.counts) (sum_text o.file) first third c.in-Err-write_record.failed
    (writes_both k g.met.O.Sink.transitive (made_text o) (record_line o.counts) first second third
    (Err c.in-Err-write_record.failed)
    (subst (λ t. Writes k t first second (Ok tt)) c.gather_made.ensures c.in-Ok.ensures)
    c.in-Err-write_record.ensures)

pub returns-in-Err : goal.returns-in-Err
returns-in-Err g c =
    let k = g.O.Sink in
    let o = c.args.outcome in
    let first = c.args.output.now in
    let second = c.write_line.new.output in
    writes_first k (made_text o ++ record_line o.counts) (sum_text o.file) first second c.in-Err.failed
    (writes_first k (made_text o) (record_line o.counts) first second c.in-Err.failed
    (subst (λ t. Writes k t first second (Err c.in-Err.failed)) c.gather_made.ensures c.in-Err.ensures))
