use Rattle.std.proofs.Common.{◌≡◌, ◌-◌, ◌*◌, IsTrue}
use Rattle.amr_frame.specs.Blocks.{GotBlocks}
use Rattle.amr_playout.specs.Ring.{IsFull}
use Rattle.amr_playout.specs.Window.{held_of, rows, slid}
use Rattle.amr_playout.proofs.window.put_held.Given as goal

abbrev pub invariant-loop-at : goal.invariant-loop-at
invariant-loop-at g l = record {
  full : IsFull l.codec l.ring;
  capacity : l.ring.capacity ≡ l.initial.ring.capacity;
  items : held_of l.ring.items ≡ slid (held_of l.initial.ring.items) (l.at * l.channels);
  got : GotBlocks g.B.BlockSink.whole l.initial.out
      (rows l.channels (held_of l.initial.ring.items) l.skip (l.at - l.skip)) l.out;
  ready : IsTrue (g.B.BlockSink.ready l.out);
  codec : g.B.BlockSink.codec l.out ≡ l.codec;
  channels : g.B.BlockSink.channels l.out ≡ l.channels;
  faults : g.B.BlockSink.faults l.out ≡ g.B.BlockSink.faults l.initial.out;
  same : g.B.BlockSink.same l.initial.out l.out;
}
