-- What an engine does that reads no input. This project's own.
use Rattle.std.specs.Prelude.{ℕ, List, Option}
use Rattle.run_report.specs.declared.report.RunReport.{RunReport}
use Rattle.spec_run.specs.Flows.{Flow}
use Rattle.spec_run.specs.Meanings.{Meaning, Works}

-- an input of which nothing is read, whatever is told of it
abbrev pub untouched : Option (List ℕ) → ℕ → Flow
untouched told faults =
    record { told = told; told' = told; faults = faults; faults' = faults }

-- it did what its job means, whatever input stands beside its output
pub record WorksUnread (m : Meaning) (output : Flow) (report : RunReport) : Type 0 where
  pub works : (told : Option (List ℕ)) (faults : ℕ)
      → Works m (record { input = untouched told faults; output = output; report = report })
