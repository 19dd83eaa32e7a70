use Rattle.std.proofs.Common.{◌≡◌, ℕ, List, Option, ap, subst, sym}
use Rattle.amr_cli.specs.Jobs.{meaning_in}
use Rattle.run_report.specs.declared.report.RunReport.{RunReport}
use Rattle.spec_run.specs.Flows.{Flow}
use Rattle.spec_run.specs.Meanings.{Meaning, Works}
use Rattle.trial_engine.specs.Unread.{WorksUnread, untouched}
use Rattle.amr_cli.proofs.engine.run_engine.Goals as goal

-- an engine that reads nothing did what its job means, whatever the input is
unread : (m m' : Meaning) (output : Flow) (report : RunReport) → m' ≡ m → WorksUnread m output report
    → (told : Option (List ℕ)) (faults : ℕ)
    → Works m' (record { input = untouched told faults; output = output; report = report })
unread m m' output report same w told faults =
    subst (λ n. Works n (record { input = untouched told faults; output = output; report = report })) (sym same)
    (w.works told faults)

pub returns-in-RunTrial-clause-works : goal.returns-in-RunTrial-clause-works
returns-in-RunTrial-clause-works g c =
    unread _ _ _ _ (ap meaning_in c.in-RunTrial.is) c.run_trial.ensures.works _ _
