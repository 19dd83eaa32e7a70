-- The summary of what a trial came to.
use Rattle.std.proofs.Common.{◌≡◌, ℕ, ◌%◌, ◌^◌, ◌++◌, ◌∙◌, ap, length}
use Rattle.std.specs.Prelude.{sum}
use Rattle.run_report.specs.Lines.{record_line}
use Rattle.spec_record.specs.RecordCounts.{counts_of}
use Rattle.spec_record.specs.Recording.{Recording, file_of}
use Rattle.spec_trial.specs.Trials.{Trial, line_of, packets_of}
use Rattle.record_hearing.specs.Jobs.{recording_of}
use Rattle.record_hearing.specs.declared.job.RecordJob.{RecordJob}
use Rattle.trial_engine.specs.Lines.{Closes, IsOn}
use Rattle.trial_engine.specs.Outcomes.{IsOutcome, made_with, sum_with}
use Rattle.trial_engine.specs.declared.line.LossyLine.{LossyLine}
use Rattle.trial_engine.specs.declared.summary.Outcome.{Outcome}
use Rattle.trial_engine.specs.declared.tape.Recorded.{Recorded}

summary_is : (t : Trial) (o : Outcome) → o.made ≡ t.count → o.sent ≡ length (packets_of t)
    → o.lost ≡ (line_of t).lost → o.doubled ≡ (line_of t).doubled → o.held ≡ (line_of t).held
    → o.counts ≡ counts_of t.recording (line_of t).delivered
    → o.file.count ≡ length (file_of t.recording (line_of t).delivered)
    → o.file.total ≡ sum (file_of t.recording (line_of t).delivered) % 2 ^ 32
    → IsOutcome t o
summary_is t o made sent lost doubled held counts count total = record {
  text = λ i. made_with (made i) (sent i) (lost i) (doubled i) (held i) ++ record_line (counts i) ++ sum_with (count i) (total i);
}

-- what a line that was closed came to
pub told : (t : Trial) (job : RecordJob) (line : LossyLine) (r : Recorded) (made : ℕ) → made ≡ t.count → recording_of job ≡ t.recording
    → IsOn job t.seed line (packets_of t) → Closes line r
    → IsOutcome t (record {
      made = made;
      sent = line.sent;
      lost = line.lost;
      doubled = line.doubled;
      held = line.held;
      counts = r.counts;
      file = r.file;
    })
told t job line r made all_made same on closes =
    let all = closes job t.seed (packets_of t) on in
    let records = (line_of t).delivered in
    summary_is t (record {
      made = made;
      sent = line.sent;
      lost = line.lost;
      doubled = line.doubled;
      held = line.held;
      counts = r.counts;
      file = r.file;
    }) all_made on.sent_is on.shows.lost_is on.shows.doubled_is on.shows.held_is
    (all.counts ∙ ap (λ (x : Recording). counts_of x records) same)
    (all.count ∙ ap (λ (x : Recording). length (file_of x records)) same)
    (all.total ∙ ap (λ (x : Recording). sum (file_of x records) % 2 ^ 32) same)
