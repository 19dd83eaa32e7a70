use Rattle.std.proofs.Common.{◌≡◌, ◌≢◌, ℕ, ◌+◌, ◌-◌, ◌<◌, ◌^◌, List, ◌++◌, length}
use Rattle.std.specs.Io.KnownBytes.{Consumes}
use Rattle.amr_io.specs.declared.gate.Gate.TheVariants as gate
use Rattle.spec_packet.specs.Records.{IsPartial}
use Rattle.record_reader.proofs.reader.RecordReader.refill.Given as goal

abbrev pub invariant-filling : goal.invariant-filling
invariant-filling g l = record {
  lent : l.self.lent ≡ 0;
  part : IsPartial g.row.HEAD g.row.AT l.self.inlet.held;
  free : length l.self.inlet.held < g.row.HEAD + (2 ^ 16 - 1);
  still : l.self.inlet.gate ≡ l.initial.self.inlet.gate;
  limit : l.self.inlet.limit ≡ l.initial.self.inlet.limit;
  faults : g.S.Source.faults l.source ≡ g.S.Source.faults l.initial.source;
  so_far : (more : List ℕ) × Consumes (g.S.Source.left l.initial.source) (g.S.Source.left l.source) more
      × (l.initial.self.inlet.held ++ more ≡ l.self.inlet.held) × (l.self.inlet.taken ≡ l.initial.self.inlet.taken + length more);
  fresh : l.initial.self.inlet.gate ≢ gate.Open → (l.self.inlet ≡ l.initial.self.inlet) × (l.source ≡ l.initial.source);
}

abbrev pub decreases-filling : goal.decreases-filling
decreases-filling g l = g.row.HEAD + (2 ^ 16 - 1) - length l.self.inlet.held
