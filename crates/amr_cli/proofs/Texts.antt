-- The notes of a run, by what came of it.
use Rattle.std.proofs.Common.{◌≡◌, ℕ, List, [], ◌++◌, refl, sym, ap, ◌∙◌, subst, inl, inr, Result, Ok, Err}
use Rattle.std.specs.Io.KnownBytes.{Appends}
use Rattle.std.proofs.lemmas.List.{append-nil}
use Rattle.amr_cli.proofs.Verdicts.{IsRefused, Refuses}
use Rattle.amr_cli.specs.Noted.{Noted, lines_of, notes_at}
use Rattle.amr_io.specs.declared.sink.Sink as sink
use Rattle.amr_io.specs.Told.{AppendsFront}
use Rattle.amr_cli.specs.declared.status.Status.{Status}
use Rattle.amr_cli.specs.declared.status.Status.TheVariants as status
use Rattle.run_report.specs.Ends.{IsFinished}
use Rattle.run_report.specs.Lines.{count_lines, end_line, notes_of, told_at}
use Rattle.run_report.specs.Written.{Writes}
use Rattle.run_report.specs.declared.counts.Counts.{Counts}
use Rattle.run_report.specs.declared.end.RunEnd.{RunEnd}
use Rattle.run_report.specs.declared.end.RunEnd.TheVariants as end
use Rattle.spec_run.specs.Flows.{Failed, Flow, written_to}
use Rattle.spec_run.specs.Meanings.{Meaning}

-- a run that worked its input off tells all its lines
finished_tells : (e : RunEnd) (told : List ℕ) → IsFinished e → told_at e told ≡ told
finished_tells end.ReadFault told f = absurd f
finished_tells end.WriteFault told f = absurd f
finished_tells end.OutOfMemory told f = absurd f
finished_tells _ told f = refl

-- the notes at a status that tells a refused input
refused_notes : (m : Meaning) (all : List ℕ) (s : Status) → IsRefused s
    → lines_of m all ++ end_line (m.end all) ≡ notes_at m all s
refused_notes m all status.InputRefused r = refl
refused_notes m all status.LimitReached r = refl
refused_notes m all status.NoAnswer r = refl
refused_notes m all _ r = absurd r

-- the notes of an input that was refused
pub refused_text : (m : Meaning) (all : List ℕ) (c : Counts) (e : RunEnd) (s : Status) → Refuses e s
    → e ≡ m.end all → c ≡ m.counts all → notes_of m.lines (record { end = e; counts = c }) ≡ notes_at m all s
refused_text m all c e s refuses is same =
    ap (λ t. t ++ end_line e) (finished_tells e (count_lines m.lines c) refuses.finished)
    ∙ (λ i. count_lines m.lines (same i) ++ end_line (is i))
    ∙ refused_notes m all s refuses.refused

-- the notes where all was done
pub done_text : (m : Meaning) (all : List ℕ) (c : Counts) (e : RunEnd) → e ≡ end.Done → c ≡ m.counts all
    → notes_of m.lines (record { end = e; counts = c }) ≡ lines_of m all
done_text m all c e is same =
    ap (λ x. notes_of m.lines (record { end = x; counts = c })) is
    ∙ append-nil (count_lines m.lines c) ∙ ap (count_lines m.lines) same

-- what a call that writes a text did to the notes
pub noted_by : {S E : Type 0} (k : sink.Ghosts S) (text : List ℕ) (old new : S) (r : Result (Unit {0}) E)
    → Writes k text old new r → Noted (written_to k old new) text
noted_by k text old new (Ok x) wrote = inl (wrote.step.cause, wrote.whole)
noted_by k text old new (Err e) wrote = inr (wrote.step.cause, wrote.part)

-- notes that got all of a text, and notes that got a front of it
pub front_of : (notes : Flow) (text : List ℕ) → Noted notes text → AppendsFront notes.told notes.told' text
front_of notes text (inl a) = (text, [], sym (append-nil text), a.1)
front_of notes text (inr a) = a.1

pub whole_of : (notes : Flow) (text : List ℕ) → (Failed notes → ⊥) → Noted notes text
    → Appends notes.told notes.told' text
whole_of notes text never (inl a) = a.1
whole_of notes text never (inr a) = absurd (never a.0)
