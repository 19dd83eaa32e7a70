-- Counts of faults over several steps.
use Rattle.std.proofs.Common.{◌≡◌, ◌≢◌, refl, sym, subst, ◌∙◌}
use Rattle.amr_io.specs.Fault.{Rose}
use Rattle.run_report.specs.declared.end.RunEnd.{RunEnd}
use Rattle.run_report.specs.declared.end.RunEnd.TheVariants as end
use Rattle.spec_run.specs.Flows.{Calm, Failed, FaultsOf, Flow}

-- the count is the same before and after
pub record SameCount (one other : Flow) : Type 0 where
  pub before : one.faults ≡ other.faults
  pub after : other.faults' ≡ one.faults'

pub calm_on : (one other : Flow) → SameCount one other → Calm one → Calm other
calm_on one other c calm = c.after ∙ calm ∙ c.before

pub failed_on : (one other : Flow) → SameCount one other → Failed one → Failed other
failed_on one other c rose =
    subst (λ n. Rose n other.faults') c.before (subst (Rose one.faults) (sym c.after) rose)

pub faults_on : (how : RunEnd) (i i' o o' : Flow) → SameCount i i' → SameCount o o'
    → FaultsOf how i o → FaultsOf how i' o'
faults_on end.ReadFault i i' o o' c d f = (failed_on i i' c f.0, calm_on o o' d f.1)
faults_on end.WriteFault i i' o o' c d f = (calm_on i i' c f.0, failed_on o o' d f.1)
faults_on _ i i' o o' c d f = (calm_on i i' c f.0, calm_on o o' d f.1)

-- a run that met no fault
pub calm_at : (how : RunEnd) (i o : Flow) → how ≢ end.ReadFault → how ≢ end.WriteFault
    → FaultsOf how i o → Calm i × Calm o
calm_at end.ReadFault i o r w f = absurd (r refl)
calm_at end.WriteFault i o r w f = absurd (w refl)
calm_at _ i o r w f = f
