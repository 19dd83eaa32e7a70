-- How a run ends: ours.
use Rattle.std.specs.Prelude.{Bool, true, false}
use Rattle.run_report.specs.declared.end.RunEnd.{RunEnd}
use Rattle.run_report.specs.declared.end.RunEnd.TheVariants as end

-- the input was worked off, as far as the limit allows: no read and no write failed, and memory was
-- found
abbrev pub IsFinished : RunEnd → Type 0
IsFinished end.ReadFault = ⊥
IsFinished end.WriteFault = ⊥
IsFinished end.OutOfMemory = ⊥
IsFinished _ = Unit {0}

abbrev pub is_finished : RunEnd → Bool
is_finished end.ReadFault = false
is_finished end.WriteFault = false
is_finished end.OutOfMemory = false
is_finished _ = true
