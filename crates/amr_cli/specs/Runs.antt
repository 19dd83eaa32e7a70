-- A run of the program over what it is lent, and what is promised of it: ours.
use Rattle.std.specs.Prelude.{◌≡◌, ◌≢◌, ◌<◌, ◌⊎◌, ℕ, List, Some}
use Rattle.std.specs.Io.KnownBytes.{Appends}
use Rattle.amr_cli.specs.Jobs.{Asked}
use Rattle.amr_cli.specs.Noted.{Noted, lines_of, notes_at}
use Rattle.amr_cli.specs.Statuses.{EndsAs}
use Rattle.amr_cli.specs.declared.status.Status.{Status}
use Rattle.amr_cli.specs.declared.status.Status.TheVariants as status
use Rattle.amr_io.specs.Told.{AppendsFront}
use Rattle.amr_io.specs.declared.sink.Sink as sink
use Rattle.amr_io.specs.declared.source.Source as source
use Rattle.run_report.specs.Lines.{notes_of}
use Rattle.run_report.specs.declared.end.RunEnd.TheVariants as end
use Rattle.run_report.specs.declared.report.RunReport.{RunReport}
use Rattle.spec_run.specs.Flows.{Calm, Failed, Flow, read_from, written_to}
use Rattle.spec_run.specs.Meanings.{BrokeReading, BrokeWriting, Meaning, Work, Works}

-- what a run of the program did
pub record Run : Type 0 where
  pub input : Flow
  pub output : Flow
  pub notes : Flow
  pub status : Status

abbrev pub run_of : {A B C : Type 0} → source.Ghosts A → sink.Ghosts B → sink.Ghosts C
    → A → A → B → B → C → C → Status → Run
run_of i o n input input' output output' notes notes' status = record {
  input = read_from i input input';
  output = written_to o output output';
  notes = written_to n notes notes';
  status = status;
}

-- a sink still writes to the same object, and what stands beside its octets is as it was
pub record SameSink {S : Type 0} (k : sink.Ghosts S) (old new : S) : Type 0 where
  pub same : k.same old new
  pub beside : k.beside new ≡ k.beside old

-- what its engine did
abbrev pub engine_of : Run → RunReport → Work
engine_of r report = record { input = r.input; output = r.output; report = report }

-- the whole of a run: its engine did what the job means, the notes tell its report, and the status
-- is that of its end
pub record Ran (m : Meaning) (r : Run) : Type 0 where
  pub report : RunReport
  pub worked : Works m (engine_of r report)
  pub noted : Noted r.notes (notes_of m.lines report)
  pub ended : EndsAs report.end r.notes r.status

-- where the input is told and neither it nor the output failed: want of memory, or just what the
-- input means and the status of its end
pub record PutsOut (m : Meaning) (r : Run) : Type 0 where
  pub put : (all : List ℕ) → r.input.told ≡ Some all
      → (Failed r.input → ⊥) → (Failed r.output → ⊥)
      → (r.status ≡ status.OutOfMemory)
      ⊎ (Appends r.output.told r.output.told' (m.out all) × EndsAs (m.end all) r.notes r.status)

-- a read failed, and what was put out is what is early of the octets read
pub record StopsReading (m : Meaning) (r : Run) : Type 0 where
  pub failed : Failed r.input
  pub broke : BrokeReading m r.input r.output

-- all but the notes was done: where the input is told, it means that all is done, and just what it
-- means was put out
pub record DoneButNotes (m : Meaning) (r : Run) : Type 0 where
  pub failed : Failed r.notes
  pub reads : Calm r.input
  pub writes : Calm r.output
  pub done : (all : List ℕ) → r.input.told ≡ Some all
      → (m.end all ≡ end.Done) × Appends r.output.told r.output.told' (m.out all)

-- a write to the output failed, or one to the notes where all else was done
abbrev pub StopsWriting : Meaning → Run → Type 0
StopsWriting m r = (Failed r.output × BrokeWriting m r.input r.output) ⊎ DoneButNotes m r

-- the notes, where they didn't fail
pub record Notes (m : Meaning) (r : Run) : Type 0 where
  pub whole : (all : List ℕ) → r.input.told ≡ Some all → (Failed r.notes → ⊥)
      → Appends r.notes.told r.notes.told' (notes_at m all r.status)

-- whether they failed or not: a front of the notes; of the lines alone where only the notes made a
-- write fault of it
pub record NotesPart (m : Meaning) (r : Run) : Type 0 where
  pub part : (all : List ℕ) → r.input.told ≡ Some all
      → AppendsFront r.notes.told r.notes.told' (notes_at m all r.status)
      ⊎ ((r.status ≡ status.WriteFault) × DoneButNotes m r
      × AppendsFront r.notes.told r.notes.told' (lines_of m all))

-- the status of a read fault comes only where a read failed, and always where the input's faults
-- rose
pub record ReadFaults (words : List (List ℕ)) (r : Run) : Type 0 where
  pub stops : r.status ≡ status.ReadFault → Asked words (λ m. StopsReading m r)
  pub always : r.input.faults < r.input.faults' → r.status ≡ status.ReadFault

-- the status of a write fault comes only where a write to the output failed, or one to the notes
-- where all else was done, and always where the output's faults rose
pub record WriteFaults (words : List (List ℕ)) (r : Run) : Type 0 where
  pub stops : r.status ≡ status.WriteFault → Asked words (λ m. StopsWriting m r)
  pub always : r.output.faults < r.output.faults' → r.status ≡ status.WriteFault

-- the notes, where they didn't fail and where they did; the status then isn't that of a job done
pub record TellsAll (words : List (List ℕ)) (r : Run) : Type 0 where
  pub whole : Asked words (λ m. Notes m r)
  pub part : Asked words (λ m. NotesPart m r)
  pub fault : r.notes.faults < r.notes.faults' → r.status ≢ status.Done
