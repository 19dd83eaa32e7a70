use Rattle.std.proofs.Common.{◌≡◌, ◌*◌, length, take}
use Rattle.amr_group.specs.Buffer.{picked}
use Rattle.amr_group.proofs.buffer.GroupBuffer.packet.Given as goal

-- the blocks of the packet so far are in front
abbrev pub invariant-loop-k : goal.invariant-loop-k
invariant-loop-k l = record {
  size : length l.out ≡ l.self.plan.blocks * l.self.channels;
  front : take (l.k * l.self.channels) l.out ≡ picked l.self.blocks l.index l.self.plan.length l.k;
}
