use Rattle.std.proofs.Common.{◌≡◌, ◌≤◌, length}
use Rattle.amr_sender.specs.Held.{HasPut, held_of, held_packets, rests_in}
use Rattle.amr_sender.proofs.groups.put_rest.Given as goal

-- the packets so far were put, and are counted
abbrev pub invariant-loop-number : goal.invariant-loop-number
invariant-loop-number g l = record {
  put : HasPut g.P.PacketSink l.fn.out l.out
      (held_packets l.plan l.behind (held_of l.group) (rests_in l.plan (length l.group.blocks) l.number));
  count : l.sent ≡ length (held_packets l.plan l.behind (held_of l.group) (rests_in l.plan (length l.group.blocks) l.number));
  few : l.sent ≤ l.number;
  room : length l.room ≡ 23822;
}
