use Rattle.std.proofs.Common.{◌≡◌, ◌⊎◌, ℕ, ◌+◌, ◌-◌, ◌^◌, List, ◌++◌, length}
use Rattle.std.specs.Io.KnownBytes.{Consumes}
use Rattle.amr_io.specs.declared.gate.Gate.TheVariants as gate
use Rattle.amr_store.specs.Reading.{IsSameReader, held}
use Rattle.amr_store.specs.Seeking.{LooksPart}
use Rattle.amr_store.proofs.reader.StoreReader.seek.Given as goal

abbrev pub invariant-seeking : goal.invariant-seeking
invariant-seeking g l = record {
  phase_is : l.self.phase ≡ l.initial.self.phase;
  same : IsSameReader l.initial.self l.self;
  still : l.self.inlet.gate ≡ gate.Open;
  faults : g.S.Source.faults l.source ≡ g.S.Source.faults l.initial.source;
  so_far : (more : List ℕ) × Consumes (g.S.Source.left l.initial.source) (g.S.Source.left l.source) more
      × (held l.initial.self ++ more ≡ held l.self) × (l.self.inlet.taken ≡ l.initial.self.inlet.taken + length more);
  quiet : ((l.source ≡ l.initial.source) × (held l.self ≡ held l.initial.self)) ⊎ LooksPart l.initial.self
      (held l.initial.self);
}

abbrev pub decreases-seeking : goal.decreases-seeking
decreases-seeking g l = 2 ^ 16 - length l.self.inlet.held
