use Rattle.std.proofs.Common.{◌≡◌, IsTrue, replicate}
use Rattle.amr_frame.specs.Blocks.{GotBlocks}
use Rattle.amr_frame.specs.Frames.{no_data}
use Rattle.amr_playout.proofs.block.put_no_data.Given as goal

abbrev pub invariant-loop : goal.invariant-loop
invariant-loop g l = record {
  got : GotBlocks g.B.BlockSink.whole l.initial.out (replicate l.counter (replicate l.channels no_data)) l.out;
  ready : IsTrue (g.B.BlockSink.ready l.out);
  codec : g.B.BlockSink.codec l.out ≡ g.B.BlockSink.codec l.initial.out;
  channels : g.B.BlockSink.channels l.out ≡ l.channels;
  faults : g.B.BlockSink.faults l.out ≡ g.B.BlockSink.faults l.initial.out;
  same : g.B.BlockSink.same l.initial.out l.out;
}
