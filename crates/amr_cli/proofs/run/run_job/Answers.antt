use Rattle.std.proofs.Common.{subst, ap}
use Rattle.amr_cli.specs.Noted.{Noted}
use Rattle.run_report.specs.Lines.{notes_of}
use Rattle.spec_run.specs.Flows.{written_to}
use Rattle.amr_cli.proofs.run.run_job.Goals as goal

pub returns-clause-ran : goal.returns-clause-ran
returns-clause-ran g c =
    let report = c.run_engine-report.result in
    let notes = written_to g.E.Sink c.args.notes.now c.note.new.notes in
    record {
      report = report;
      worked = c.run_engine-report.ensures.works;
      noted = subst (λ lines. Noted notes (notes_of lines report)) c.noted_lines.ensures c.note.ensures.noted;
      ended = c.note.ensures.ended;
    }
