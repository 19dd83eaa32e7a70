use Rattle.std.proofs.Common.{◌≡◌, ◌+◌, ◌*◌, ◌++◌, length, take}
use Rattle.std.specs.Prelude.{flat_map}
use Rattle.rtp_packet.specs.Written.{octets_32}
use Rattle.rtp_packet.proofs.put.put_sources.Given as goal

abbrev pub invariant-loop-source : goal.invariant-loop-source
invariant-loop-source l = record {
  end : l.end ≡ l.fn.at + 4 * l.source-index;
  size : length l.out ≡ length l.initial.out;
  front : take l.end l.out ≡ take l.fn.at l.initial.out ++ flat_map octets_32 (take l.source-index l.sources);
}
