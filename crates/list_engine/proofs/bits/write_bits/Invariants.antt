use Rattle.std.proofs.Common.{Ok, flat_map}
use Rattle.std.specs.List.{range_with_len}
use Rattle.amr_io.specs.declared.source.Failed.{Failed}
use Rattle.list_engine.specs.Payloads.{bits_said}
use Rattle.run_report.specs.Written.{Writes}
use Rattle.list_engine.proofs.bits.write_bits.Given as goal

-- the lines of the frames so far were written
abbrev pub invariant-loop-at : goal.invariant-loop-at
invariant-loop-at g l = record {
  written : Writes {E = Failed} g.O.Sink (flat_map (bits_said l.view) (range_with_len 0 l.at))
      l.fn.output l.output (Ok tt);
}
