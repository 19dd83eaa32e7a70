-- The notes of a run: ours.
use Rattle.std.specs.Prelude.{◌⊎◌, ℕ, List, ◌++◌}
use Rattle.std.specs.Io.KnownBytes.{Appends}
use Rattle.amr_io.specs.Told.{AppendsFront}
use Rattle.amr_cli.specs.declared.status.Status.{Status}
use Rattle.amr_cli.specs.declared.status.Status.TheVariants as status
use Rattle.run_report.specs.Lines.{count_lines, end_line, usage_line}
use Rattle.run_report.specs.declared.end.RunEnd.TheVariants as end
use Rattle.spec_run.specs.Flows.{Calm, Failed, Flow}
use Rattle.spec_run.specs.Meanings.{Meaning}

-- the notes got this text; where they failed, they got a front of it
abbrev pub Noted : Flow → List ℕ → Type 0
Noted notes text =
    (Calm notes × Appends notes.told notes.told' text)
    ⊎ (Failed notes × AppendsFront notes.told notes.told' text)

-- the lines of the counts of an input
abbrev pub lines_of : Meaning → List ℕ → List ℕ
lines_of m input = count_lines m.lines (m.counts input)

-- the notes of a job that ends with this status: its lines, and the line of the end
abbrev pub notes_at : Meaning → List ℕ → Status → List ℕ
notes_at m input status.Done = lines_of m input
notes_at m input status.InputRefused = lines_of m input ++ end_line (m.end input)
notes_at m input status.LimitReached = lines_of m input ++ end_line (m.end input)
notes_at m input status.NoAnswer = lines_of m input ++ end_line (m.end input)
notes_at m input status.ReadFault = end_line end.ReadFault
notes_at m input status.WriteFault = end_line end.WriteFault
notes_at m input status.OutOfMemory = end_line end.OutOfMemory
notes_at m input status.Usage = usage_line
