-- What a trial did to its output.
use Rattle.std.proofs.Common.{◌≡◌, ℕ, List, [], Option, refl, Ok, Err}
use Rattle.amr_io.specs.declared.sink.Sink as sink
use Rattle.run_report.specs.Lines.{no_counts}
use Rattle.run_report.specs.Written.{Writes}
use Rattle.run_report.specs.declared.end.RunEnd.TheVariants as end
use Rattle.spec_run.specs.Flows.{written_to}
use Rattle.spec_run.specs.Meanings.{Leaves}
use Rattle.std.proofs.KnownBytes.{Consumes-nil}
use Rattle.spec_trial.specs.Trials.{Trial, summary, trial_meaning}
use Rattle.trial_engine.specs.Unread.{WorksUnread, untouched}

-- what is left of an input that isn't read
left : (t : Trial) (told : Option (List ℕ)) (faults : ℕ) (done : Type 0) → Leaves (trial_meaning t) (untouched told faults) done
left t told faults done = record { nothing = λ e d all is. absurd cc; untouched = λ e. refl }

module _ {S E : Type 0} (k : sink.Ghosts S) (t : Trial) (old new : S) where
  -- the summary was written
  pub done : Writes {E = E} k (summary t) old new (Ok tt)
      → WorksUnread (trial_meaning t) (written_to k old new) (record { end = end.Done; counts = no_counts })
  done w = record {
    works = λ told faults. record {
      served = λ finished all is. record { end = refl; out = w.whole; counts = refl };
      leaves = left t told faults (end.Done ≡ end.Done);
      read_fault = λ e. absurd cc;
      write_fault = λ e. absurd cc;
      faults = (refl, w.step.cause);
    };
  }

  -- a write failed
  pub failed : (e : E) → Writes {E = E} k (summary t) old new (Err e)
      → WorksUnread (trial_meaning t) (written_to k old new) (record { end = end.WriteFault; counts = no_counts })
  failed e w = record {
    works = λ told faults. record {
      served = λ finished all is. absurd finished;
      leaves = left t told faults (end.WriteFault ≡ end.Done);
      read_fault = λ e. absurd cc;
      write_fault = λ e. record {
        read = [];
        out = w.part.0;
        took = Consumes-nil told;
        put = w.part.3;
        near = tt;
        part = λ all is. (w.part.1, w.part.2);
      };
      faults = (refl, w.step.cause);
    };
  }

-- there was no memory
pub no_memory : {S : Type 0} (k : sink.Ghosts S) (t : Trial) (output : S)
    → WorksUnread (trial_meaning t) (written_to k output output) (record { end = end.OutOfMemory; counts = no_counts })
no_memory k t output = record {
  works = λ told faults. record {
    served = λ finished all is. absurd finished;
    leaves = left t told faults (end.OutOfMemory ≡ end.Done);
    read_fault = λ e. absurd cc;
    write_fault = λ e. absurd cc;
    faults = (refl, refl);
  };
}
