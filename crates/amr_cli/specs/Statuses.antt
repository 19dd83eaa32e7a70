-- The statuses of the program: ours.
use Rattle.std.specs.Prelude.{◌≡◌, ◌⊎◌, ℕ}
use Rattle.amr_cli.specs.declared.status.Status.{Status}
use Rattle.amr_cli.specs.declared.status.Status.TheVariants as status
use Rattle.run_report.specs.declared.end.RunEnd.{RunEnd}
use Rattle.run_report.specs.declared.end.RunEnd.TheVariants as end
use Rattle.spec_run.specs.Flows.{Calm, Failed, Flow}

-- the number that the program ends with
abbrev pub number_for : Status → ℕ
number_for status.Done = 0
number_for status.Usage = 1
number_for status.InputRefused = 2
number_for status.ReadFault = 3
number_for status.WriteFault = 4
number_for status.OutOfMemory = 5
number_for status.LimitReached = 6
number_for status.NoAnswer = 7

-- the status of a run that ended so
abbrev pub status_for : RunEnd → Status
status_for end.Done = status.Done
status_for (end.LogCut have) = status.InputRefused
status_for (end.File refusal) = status.InputRefused
status_for (end.Sdp refusal) = status.InputRefused
status_for end.ReadFault = status.ReadFault
status_for end.WriteFault = status.WriteFault
status_for end.OutOfMemory = status.OutOfMemory
status_for end.LimitReached = status.LimitReached
status_for end.NoAnswer = status.NoAnswer

-- the same where the notes failed: a write fault where all else was done
abbrev pub but_notes : Status → Status
but_notes status.Done = status.WriteFault
but_notes status.Usage = status.Usage
but_notes status.InputRefused = status.InputRefused
but_notes status.ReadFault = status.ReadFault
but_notes status.WriteFault = status.WriteFault
but_notes status.OutOfMemory = status.OutOfMemory
but_notes status.LimitReached = status.LimitReached
but_notes status.NoAnswer = status.NoAnswer

-- the status by the end and by whether the notes failed
abbrev pub EndsAs : RunEnd → Flow → Status → Type 0
EndsAs end notes result =
    (Calm notes × (result ≡ status_for end))
    ⊎ (Failed notes × (result ≡ but_notes (status_for end)))
