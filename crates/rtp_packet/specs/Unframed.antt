-- What a log brings where its records bring this (RFC 4571, 2): of a record the packet behind its
-- length.
use Rattle.std.specs.Prelude.{◌≡◌, ◌<◌, ◌^◌, [], length}
use Rattle.spec_packet.specs.Log.{framed}
use Rattle.record_reader.specs.declared.next.Next.{Next as NextRecord}
use Rattle.record_reader.specs.declared.next.Next.TheVariants as records
use Rattle.rtp_packet.specs.declared.next.Next.{Next}
use Rattle.rtp_packet.specs.declared.next.Next.TheVariants.{Packet, Null, End, Truncated, OverLimit}

-- the same answer, and of a record its packet
abbrev pub Unframes : NextRecord → Next → Type 0
Unframes (records.Record r) (Packet p) = (r.now ≡ framed p.now) × (length p.now < 2 ^ 16)
    × (0 < length p.now)
Unframes (records.Record r) Null = r.now ≡ framed []
Unframes records.End End = Unit {0}
Unframes (records.Truncated have) (Truncated had) = had ≡ have
Unframes records.OverLimit OverLimit = Unit {0}
Unframes _ _ = ⊥
