-- What came of a run, by its end, its notes and its status.
use Rattle.std.proofs.Common.{◌≡◌, ◌<◌, ap, sym, subst, ◌∙◌, refl, inl, inr, arith}
use Rattle.amr_cli.specs.Statuses.{EndsAs, but_notes, status_for}
use Rattle.amr_cli.specs.declared.status.Status.{Status}
use Rattle.amr_cli.specs.declared.status.Status.TheVariants as status
use Rattle.run_report.specs.Ends.{IsFinished}
use Rattle.run_report.specs.declared.end.RunEnd.{RunEnd}
use Rattle.run_report.specs.declared.end.RunEnd.TheVariants as end
use Rattle.spec_run.specs.Flows.{Calm, Failed, FaultsOf, Flow}

-- a status that tells an input that was worked off and isn't what it should be
abbrev pub IsRefused : Status → Type 0
IsRefused status.InputRefused = Unit {0}
IsRefused status.LimitReached = Unit {0}
IsRefused status.NoAnswer = Unit {0}
IsRefused _ = ⊥

-- such a run, and the status that tells it
pub record Refuses (e : RunEnd) (s : Status) : Type 0 where
  pub finished : IsFinished e
  pub refused : IsRefused s

-- what came of a run
pub data Outcome (e : RunEnd) (notes : Flow) (s : Status) : Type 0 where
  Done : e ≡ end.Done → Calm notes → s ≡ status.Done → Outcome e notes s
  ButNotes : e ≡ end.Done → Failed notes → s ≡ status.WriteFault → Outcome e notes s
  Read : e ≡ end.ReadFault → s ≡ status.ReadFault → Outcome e notes s
  Write : e ≡ end.WriteFault → s ≡ status.WriteFault → Outcome e notes s
  Memory : e ≡ end.OutOfMemory → s ≡ status.OutOfMemory → Outcome e notes s
  Refused : Refuses e s → Outcome e notes s

-- the status, whatever the notes did, where those change nothing of it
whatever : (e : RunEnd) (notes : Flow) (s t : Status) → status_for e ≡ t → but_notes t ≡ t → EndsAs e notes s → s ≡ t
whatever e notes s t is same (inl ended) = ended.1 ∙ is
whatever e notes s t is same (inr ended) = ended.1 ∙ ap but_notes is ∙ same

refused : (e : RunEnd) (notes : Flow) (s t : Status) → IsFinished e → IsRefused t → s ≡ t → Outcome e notes s
refused e notes s t finished tells is = Refused (record { finished = finished; refused = subst IsRefused (sym is) tells })

pub outcome : (e : RunEnd) (notes : Flow) (s : Status) → EndsAs e notes s → Outcome e notes s
outcome end.Done notes s (inl ended) = Done refl ended.0 ended.1
outcome end.Done notes s (inr ended) = ButNotes refl ended.0 ended.1
outcome end.ReadFault notes s ended = Read refl (whatever end.ReadFault notes s status.ReadFault refl refl ended)
outcome end.WriteFault notes s ended = Write refl (whatever end.WriteFault notes s status.WriteFault refl refl ended)
outcome end.OutOfMemory notes s ended = Memory refl (whatever end.OutOfMemory notes s status.OutOfMemory refl refl ended)
outcome (end.LogCut have) notes s ended =
    refused (end.LogCut have) notes s status.InputRefused tt tt (whatever (end.LogCut have) notes s status.InputRefused refl refl ended)
outcome (end.File why) notes s ended =
    refused (end.File why) notes s status.InputRefused tt tt (whatever (end.File why) notes s status.InputRefused refl refl ended)
outcome (end.Sdp why) notes s ended =
    refused (end.Sdp why) notes s status.InputRefused tt tt (whatever (end.Sdp why) notes s status.InputRefused refl refl ended)
outcome end.LimitReached notes s ended =
    refused end.LimitReached notes s status.LimitReached tt tt (whatever end.LimitReached notes s status.LimitReached refl refl ended)
outcome end.NoAnswer notes s ended =
    refused end.NoAnswer notes s status.NoAnswer tt tt (whatever end.NoAnswer notes s status.NoAnswer refl refl ended)

-- the end of a run in which a count of faults rose, and its status
pub rose_reading : (e : RunEnd) (i o : Flow) → FaultsOf e i o → i.faults < i.faults' → e ≡ end.ReadFault
rose_reading end.ReadFault i o f less = refl
rose_reading end.WriteFault i o f less = let calm = f.0 in absurd (omega (arith, calm, less))
rose_reading _ i o f less = let calm = f.0 in absurd (omega (arith, calm, less))

pub rose_writing : (e : RunEnd) (i o : Flow) → FaultsOf e i o → o.faults < o.faults' → e ≡ end.WriteFault
rose_writing end.WriteFault i o f less = refl
rose_writing end.ReadFault i o f less = let calm = f.1 in absurd (omega (arith, calm, less))
rose_writing _ i o f less = let calm = f.1 in absurd (omega (arith, calm, less))

pub faulty : (e e' : RunEnd) (notes : Flow) (s : Status) → but_notes (status_for e') ≡ status_for e' → e ≡ e' → EndsAs e notes s
    → s ≡ status_for e'
faulty e e' notes s same is ended = whatever e notes s (status_for e') (ap status_for is) same ended
