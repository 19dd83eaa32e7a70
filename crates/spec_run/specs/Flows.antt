-- What a run did to a source or a sink that it was lent: ours.
use Rattle.std.specs.Prelude.{◌≡◌, ℕ, List, Option}
use Rattle.amr_io.specs.Fault.{Rose}
use Rattle.amr_io.specs.declared.sink.Sink as sink
use Rattle.amr_io.specs.declared.source.Source as source
use Rattle.run_report.specs.declared.end.RunEnd.{RunEnd}
use Rattle.run_report.specs.declared.end.RunEnd.TheVariants as end

-- the octets that are told, left in a source or got by a sink, and the count of faults; before, and
-- after
pub record Flow : Type 0 where
  pub told : Option (List ℕ)
  pub told' : Option (List ℕ)
  pub faults : ℕ
  pub faults' : ℕ

abbrev flow : {A : Type 0} → (A → Option (List ℕ)) → (A → ℕ) → A → A → Flow
flow told faults old new = record {
  told = told old;
  told' = told new;
  faults = faults old;
  faults' = faults new;
}

-- what was read from a source
abbrev pub read_from : {A : Type 0} → source.Ghosts A → A → A → Flow
read_from s old new = flow s.left s.faults old new

-- what was written to a sink
abbrev pub written_to : {A : Type 0} → sink.Ghosts A → A → A → Flow
written_to s old new = flow s.got s.faults old new

-- the count rose; it is as before
abbrev pub Failed : Flow → Type 0
Failed flow = Rose flow.faults flow.faults'

abbrev pub Calm : Flow → Type 0
Calm flow = flow.faults' ≡ flow.faults

-- which count of faults rose, the input's or the output's, by the end
abbrev pub FaultsOf : RunEnd → Flow → Flow → Type 0
FaultsOf end.ReadFault input output = Failed input × Calm output
FaultsOf end.WriteFault input output = Calm input × Failed output
FaultsOf _ input output = Calm input × Calm output
