-- The clauses of the top call, from what its run did.
use Rattle.std.proofs.Common.{◌≡◌, ℕ, ◌<◌, List, Option, Some, refl, sym, subst, ap, ◌∙◌, arith, inl, inr, ◌⊎◌}
use Rattle.std.specs.Io.KnownBytes.{Appends}
use Rattle.amr_cli.proofs.Texts.{done_text, front_of, refused_text, whole_of}
use Rattle.amr_cli.proofs.Verdicts.{ButNotes, Done, IsRefused, Memory, Outcome, Read, Refused, Write, faulty, outcome, rose_reading, rose_writing}
use Rattle.amr_cli.specs.Jobs.{job_in, meaning_in}
use Rattle.amr_cli.specs.Noted.{lines_of, notes_at}
use Rattle.amr_cli.specs.Runs.{DoneButNotes, Notes, NotesPart, PutsOut, Ran, Run, StopsReading, StopsWriting, engine_of}
use Rattle.amr_cli.specs.Statuses.{EndsAs}
use Rattle.amr_io.specs.Told.{AppendsFront}
use Rattle.amr_cli.specs.declared.job.Job.{Job}
use Rattle.amr_cli.specs.declared.status.Status.TheVariants as status
use Rattle.run_report.specs.Ends.{IsFinished}
use Rattle.run_report.specs.Lines.{notes_of}
use Rattle.run_report.specs.declared.end.RunEnd.{RunEnd}
use Rattle.run_report.specs.declared.end.RunEnd.TheVariants as end
use Rattle.spec_jobs.specs.Jobs.{Job as Asked, meaning_of}
use Rattle.spec_run.specs.Flows.{Failed, FaultsOf}
use Rattle.spec_run.specs.Meanings.{Leaves, Meaning, Served}

-- what the run of a job did is what the job of the words means
pub asked : (words : Option Asked) (given : Job) (job : Asked) (r : Run) → Some (job_in given) ≡ words
    → words ≡ Some job → Ran (meaning_in given) r → Ran (meaning_of job) r
asked words given job r d e ran = let same : job_in given ≡ job = cc in subst (λ j. Ran (meaning_of j) r) same ran

module _ (m : Meaning) (r : Run) (ran : Ran m r) where
  what : Outcome ran.report.end r.notes r.status
  what = outcome ran.report.end r.notes r.status ran.ended

  -- the faults of a run that ended so
  faults_at : (e : RunEnd) → ran.report.end ≡ e → FaultsOf e r.input r.output
  faults_at e is = subst (λ x. FaultsOf x r.input r.output) is ran.worked.faults

  -- all was done
  done_at : (all : List ℕ) → r.input.told ≡ Some all → ran.report.end ≡ end.Done → Served m all (engine_of r ran.report)
  done_at all told is = ran.worked.served (subst IsFinished (sym is) tt) all told

  -- no run is told by the usage
  pub never_usage : r.status ≡ status.Usage → ⊥
  never_usage = not_usage what
    where
      not_usage : Outcome ran.report.end r.notes r.status → r.status ≡ status.Usage → ⊥
      not_usage (Done is calm s) u = cc
      not_usage (ButNotes is failed s) u = cc
      not_usage (Read is s) u = cc
      not_usage (Write is s) u = cc
      not_usage (Memory is s) u = cc
      not_usage (Refused refuses) u = subst IsRefused u refuses.refused

  served_out : (all : List ℕ) → Served m all (engine_of r ran.report)
      → (r.status ≡ status.OutOfMemory) ⊎ (Appends r.output.told r.output.told' (m.out all) × EndsAs (m.end all) r.notes r.status)
  served_out all done = inr (done.out, subst (λ x. EndsAs x r.notes r.status) done.end ran.ended)

  puts_by : Outcome ran.report.end r.notes r.status → (all : List ℕ) → r.input.told ≡ Some all → (Failed r.input → ⊥) → (Failed r.output → ⊥)
      → (r.status ≡ status.OutOfMemory) ⊎ (Appends r.output.told r.output.told' (m.out all) × EndsAs (m.end all) r.notes r.status)
  puts_by (Done is calm s) all told ni nw = served_out all (done_at all told is)
  puts_by (ButNotes is failed s) all told ni nw = served_out all (done_at all told is)
  puts_by (Read is s) all told ni nw = absurd (ni (faults_at end.ReadFault is).0)
  puts_by (Write is s) all told ni nw = absurd (nw (faults_at end.WriteFault is).1)
  puts_by (Memory is s) all told ni nw = inl s
  puts_by (Refused refuses) all told ni nw = served_out all (ran.worked.served (refuses.finished) all told)

  pub puts_out : PutsOut m r
  puts_out = record { put = puts_by what }

  done_end : Outcome ran.report.end r.notes r.status → r.status ≡ status.Done → ran.report.end ≡ end.Done
  done_end (Done is calm s) d = is
  done_end (ButNotes is failed s) d = is
  done_end (Read is s) d = absurd cc
  done_end (Write is s) d = absurd cc
  done_end (Memory is s) d = absurd cc
  done_end (Refused refuses) d = absurd (subst IsRefused d refuses.refused)

  pub leaves_input : Leaves m r.input (r.status ≡ status.Done)
  leaves_input = record {
    nothing = λ reads d. ran.worked.leaves.nothing reads (done_end what d);
    untouched = ran.worked.leaves.untouched;
  }

  -- a fault of the input
  read_end : Outcome ran.report.end r.notes r.status → r.status ≡ status.ReadFault → ran.report.end ≡ end.ReadFault
  read_end (Done is calm s) d = absurd cc
  read_end (ButNotes is failed s) d = absurd cc
  read_end (Read is s) d = is
  read_end (Write is s) d = absurd cc
  read_end (Memory is s) d = absurd cc
  read_end (Refused refuses) d = absurd (subst IsRefused d refuses.refused)

  pub stops_reading : r.status ≡ status.ReadFault → StopsReading m r
  stops_reading d = let is = read_end what d in record { failed = (faults_at end.ReadFault is).0; broke = ran.worked.read_fault is }

  pub read_always : r.input.faults < r.input.faults' → r.status ≡ status.ReadFault
  read_always less = faulty _ end.ReadFault r.notes r.status refl (rose_reading _ r.input r.output ran.worked.faults less) ran.ended

  -- a fault of the output, or of the notes
  but_notes : ran.report.end ≡ end.Done → Failed r.notes → DoneButNotes m r
  but_notes is failed =
      let f = faults_at end.Done is in
      record {
        failed = failed;
        reads = f.0;
        writes = f.1;
        done = λ all told. let done = done_at all told is in (sym done.end ∙ is, done.out);
      }

  stops_writing_by : Outcome ran.report.end r.notes r.status → r.status ≡ status.WriteFault → StopsWriting m r
  stops_writing_by (Done is calm s) d = absurd cc
  stops_writing_by (ButNotes is failed s) d = inr (but_notes is failed)
  stops_writing_by (Read is s) d = absurd cc
  stops_writing_by (Write is s) d = inl ((faults_at end.WriteFault is).1, ran.worked.write_fault is)
  stops_writing_by (Memory is s) d = absurd cc
  stops_writing_by (Refused refuses) d = absurd (subst IsRefused d refuses.refused)

  pub stops_writing : r.status ≡ status.WriteFault → StopsWriting m r
  stops_writing = stops_writing_by what

  pub write_always : r.output.faults < r.output.faults' → r.status ≡ status.WriteFault
  write_always less = faulty _ end.WriteFault r.notes r.status refl (rose_writing _ r.input r.output ran.worked.faults less) ran.ended

  -- a fault of the notes
  never_done : Outcome ran.report.end r.notes r.status → r.notes.faults < r.notes.faults' → r.status ≡ status.Done → ⊥
  never_done (Done is calm s) less d = omega (arith, calm, less)
  never_done (ButNotes is failed s) less d = cc
  never_done (Read is s) less d = cc
  never_done (Write is s) less d = cc
  never_done (Memory is s) less d = cc
  never_done (Refused refuses) less d = subst IsRefused d refuses.refused

  pub notes_fault : r.notes.faults < r.notes.faults' → r.status ≡ status.Done → ⊥
  notes_fault = never_done what

  -- the notes are those of the status, but where a fault of theirs changed it
  abbrev text : List ℕ
  text = notes_of m.lines ran.report

  text_by : Outcome ran.report.end r.notes r.status → (all : List ℕ) → r.input.told ≡ Some all
      → (text ≡ notes_at m all r.status) ⊎ ((r.status ≡ status.WriteFault) × DoneButNotes m r × (text ≡ lines_of m all))
  text_by (Done is calm s) all told = inl (done_text m all _ _ is (done_at all told is).counts ∙ ap (notes_at m all) (sym s))
  text_by (ButNotes is failed s) all told = inr (s, but_notes is failed, done_text m all _ _ is (done_at all told is).counts)
  text_by (Read is s) all told = inl (ap (λ x. notes_of m.lines (record ran.report { end = x })) is ∙ ap (notes_at m all) (sym s))
  text_by (Write is s) all told = inl (ap (λ x. notes_of m.lines (record ran.report { end = x })) is ∙ ap (notes_at m all) (sym s))
  text_by (Memory is s) all told = inl (ap (λ x. notes_of m.lines (record ran.report { end = x })) is ∙ ap (notes_at m all) (sym s))
  text_by (Refused refuses) all told =
      let done = ran.worked.served (refuses.finished) all told in
      inl (refused_text m all _ _ _ refuses done.end done.counts)

  whole_by : (all : List ℕ) → (Failed r.notes → ⊥)
      → (text ≡ notes_at m all r.status) ⊎ ((r.status ≡ status.WriteFault) × DoneButNotes m r × (text ≡ lines_of m all))
      → Appends r.notes.told r.notes.told' (notes_at m all r.status)
  whole_by all never (inl is) = subst (Appends r.notes.told r.notes.told') is (whole_of r.notes text never ran.noted)
  whole_by all never (inr but) = absurd (never but.1.failed)

  pub whole_notes : Notes m r
  whole_notes = record { whole = λ all told never. whole_by all never (text_by what all told) }

  part_by : (all : List ℕ)
      → (text ≡ notes_at m all r.status) ⊎ ((r.status ≡ status.WriteFault) × DoneButNotes m r × (text ≡ lines_of m all))
      → AppendsFront r.notes.told r.notes.told' (notes_at m all r.status)
      ⊎ ((r.status ≡ status.WriteFault) × DoneButNotes m r × AppendsFront r.notes.told r.notes.told' (lines_of m all))
  part_by all (inl is) = inl (subst (AppendsFront r.notes.told r.notes.told') is (front_of r.notes text ran.noted))
  part_by all (inr but) = inr (but.0, but.1, subst (AppendsFront r.notes.told r.notes.told') but.2 (front_of r.notes text ran.noted))

  pub notes_part : NotesPart m r
  notes_part = record { part = λ all told. part_by all (text_by what all told) }
