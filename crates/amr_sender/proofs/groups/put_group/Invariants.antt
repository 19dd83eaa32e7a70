use Rattle.std.proofs.Common.{◌≡◌, ◌≤◌, ◌*◌, length}
use Rattle.amr_sender.specs.Held.{HasPut, held_of, held_packets, turns_in}
use Rattle.amr_sender.proofs.groups.put_group.Given as goal

-- the packets so far were put, and are counted
abbrev pub invariant-loop-index : goal.invariant-loop-index
invariant-loop-index g l = record {
  put : HasPut g.P.PacketSink l.fn.out l.out (held_packets l.plan l.behind (held_of l.group) (turns_in l.plan l.index));
  count : l.sent ≡ length (held_packets l.plan l.behind (held_of l.group) (turns_in l.plan l.index));
  few : l.sent ≤ l.index;
  cells : length l.cells ≡ l.plan.blocks * l.plan.profile.channels;
  room : length l.room ≡ 23822;
}
