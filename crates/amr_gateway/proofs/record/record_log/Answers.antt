use Rattle.std.proofs.Common.{◌≡◌, ◌∙◌, ℕ, subst, sym}
use Rattle.amr_gateway.proofs.Returned.{returned}
use Rattle.amr_gateway.proofs.Shared.{ignores_order, ignores_strangers}
use Rattle.record_hearing.specs.Jobs.{recording_of}
use Rattle.record_hearing.specs.Tallies.{counted_in_all}
use Rattle.record_hearing.specs.declared.job.RecordJob.{RecordJob}
use Rattle.rtp_packet.specs.Reading.{limit_of}
use Rattle.run_report.specs.declared.counts.Counts.{Counts}
use Rattle.run_report.specs.declared.report.RunReport.{RunReport}
use Rattle.spec_record.specs.RecordMeaning.{record_meaning}
use Rattle.spec_run.specs.Meanings.{Works, work_of}
use Rattle.amr_gateway.proofs.record.record_log.Goals as goal

pub returns-clause-works : goal.returns-clause-works
returns-clause-works g c =
    let run = c.run_records-end in
    let recorder = run.new.handler in
    let counted = counted_in_all recorder.listener.tally recorder.listener.receiver.counts in
    let report : RunReport = record { end = run.result; counts = counted } in
    let meaning = record_meaning (recording_of c.new.result.job) (limit_of c.in-Ok-create.reader) in
    let before = c.args.output.now in
    let after = run.new.sink.output.now in
    let out : c.output-1.given.0 ≡ after = c.output-1.given.1 (sym (run.ensures.same.reference ∙ c.new-sink.ensures.same_reference)) in
    let as_run =
    subst (λ x. Works meaning (work_of g.I.Source g.O.Sink c.args.input.now run.new.input before x report)) (sym out)
    (subst (λ x. Works meaning (work_of g.I.Source g.O.Sink c.args.input.now run.new.input x after report)) c.new-sink.ensures.now run.ensures.works) in
    let work : Counts → _ = λ counts. work_of g.I.Source g.O.Sink c.args.input.now run.new.input before c.output-1.given.0 (record { end = run.result; counts = counts }) in
    let of_job = subst (λ (j : RecordJob). Works (record_meaning (recording_of j) (limit_of c.in-Ok-create.reader)) (work counted)) c.new.ensures.job as_run in
    let of_limit = subst (λ (n : ℕ). Works (record_meaning (recording_of c.args.job.now) n) (work counted)) c.in-Ok-create.ensures.limit of_job in
    subst (λ counts. Works (record_meaning (recording_of c.args.job.now) c.args.job.now.limit) (work counts)) (sym c.counts.ensures) of_limit

pub returns-clause-returns : goal.returns-clause-returns
returns-clause-returns g c =
    let run = c.run_records-end in
    let report : RunReport = record { end = run.result; counts = c.counts.result } in
    let work = work_of g.I.Source g.O.Sink c.args.input.now run.new.input c.args.output.now c.output-1.given.0 report in
    returned c.args.job.now work c.requires.served (returns-clause-works g c)

pub returns-clause-order : goal.returns-clause-order
returns-clause-order g c =
    let run = c.run_records-end in
    let report : RunReport = record { end = run.result; counts = c.counts.result } in
    let work = work_of g.I.Source g.O.Sink c.args.input.now run.new.input c.args.output.now c.output-1.given.0 report in
    ignores_order c.args.job.now work (returns-clause-works g c)

pub returns-clause-strangers : goal.returns-clause-strangers
returns-clause-strangers g c =
    let run = c.run_records-end in
    let report : RunReport = record { end = run.result; counts = c.counts.result } in
    let work = work_of g.I.Source g.O.Sink c.args.input.now run.new.input c.args.output.now c.output-1.given.0 report in
    ignores_strangers c.args.job.now work (returns-clause-works g c)
