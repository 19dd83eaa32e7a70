use Rattle.std.proofs.Common.{◌≡◌, ◌∙◌, ℕ, subst, sym}
use Rattle.list_engine.specs.Jobs.{listing_meaning, listing_of}
use Rattle.rtp_packet.specs.Reading.{limit_of}
use Rattle.run_report.specs.Lines.{no_counts}
use Rattle.run_report.specs.declared.report.RunReport.{RunReport}
use Rattle.spec_listing.specs.Listing.{list_meaning}
use Rattle.spec_run.specs.Meanings.{Works, work_of}
use Rattle.list_engine.proofs.list.list_log.Goals as goal

pub returns-clause-works : goal.returns-clause-works
returns-clause-works g c =
    let run = c.run_records-end in
    let job = c.args.job.now in
    let report : RunReport = record { end = run.result; counts = no_counts } in
    let meaning = list_meaning (listing_of job) in
    let limit = limit_of c.in-Ok-create.reader in
    let read = run.new.input in
    let before = c.args.output.now in
    let after = run.new.sink.output.now in
    let out : c.output-1.given.0 ≡ after = c.output-1.given.1
    (sym (run.ensures.same.reference ∙ c.new-sink.ensures.same_reference)) in
    let as_run =
    subst (λ x. Works (meaning limit) (work_of g.I.Source g.O.Sink c.args.input.now read before x
    report)) (sym out)
    (subst (λ x. Works (meaning limit) (work_of g.I.Source g.O.Sink c.args.input.now read x after
    report)) c.new-sink.ensures.now run.ensures.works) in
    let work = λ (r : RunReport). work_of g.I.Source g.O.Sink c.args.input.now read before
    c.output-1.given.0 r in
    let of_limit = subst (λ (n : ℕ). Works (meaning n) (work report)) c.in-Ok-create.ensures.limit
    as_run in
    subst (λ (r : RunReport). Works (listing_meaning job) (work r)) (sym c.ended-2.ensures) of_limit
