-- What the host hands to the program, and what it is told in the end: ours.
use Rattle.std.specs.Prelude.{◌≡◌, ◌↔◌, ℕ, List, None}
use Rattle.std.specs.declared.io.ErrorKind.{ErrorKind}
use Rattle.std.specs.declared.io.ErrorKind.TheVariants as kind
use Rattle.amr_cli.specs.Jobs.{Asked, job_of}
use Rattle.amr_cli.specs.Noted.{Noted}
use Rattle.amr_cli.specs.Runs.{Ran, Run}
use Rattle.amr_cli.specs.Statuses.{number_for}
use Rattle.amr_cli.specs.declared.status.Status.{Status}
use Rattle.amr_cli.specs.declared.status.Status.TheVariants.{Usage, OutOfMemory}
use Rattle.run_report.specs.Lines.{end_line, usage_line}
use Rattle.run_report.specs.declared.end.RunEnd.TheVariants as end
use Rattle.spec_run.specs.Flows.{Flow}

-- the status where the words can't be had: there was no memory for them, or one is no word of a job
abbrev pub status_without_words : ErrorKind → Status
status_without_words kind.OutOfMemory = OutOfMemory
status_without_words _ = Usage

-- the line of that status
abbrev pub line_without_words : ErrorKind → List ℕ
line_without_words kind.OutOfMemory = end_line end.OutOfMemory
line_without_words _ = usage_line

-- the program didn't run, since its words couldn't be had: nothing was read or put out, the notes
-- got the line of that, and the program ends with the number of its status
pub record NotRun {A B : Type 0} (why : ErrorKind) (input input' : A) (output output' : B)
    (notes : Flow) (code : ℕ) : Type 0 where
  pub reads : input' ≡ input
  pub writes : output' ≡ output
  pub noted : Noted notes (line_without_words why)
  pub ends : code ≡ number_for (status_without_words why)

-- the program ran over these words, and ends with the number of its status
pub record HasRun (words : List (List ℕ)) (r : Run) (code : ℕ) : Type 0 where
  pub usage : (job_of words ≡ None) ↔ (r.status ≡ Usage)
  pub usage_noted : r.status ≡ Usage → Noted r.notes usage_line
  pub run : Asked words (λ m. Ran m r)
  pub ends : code ≡ number_for r.status
