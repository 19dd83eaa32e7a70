-- Records that are accepted packets. The others are strangers: those that are no RTP packet
-- (RFC 3550, 5.1) of the asked payload type with a payload of the format (RFC 4867, 4), and the
-- packets that are refused. This project's own.
use Rattle.std.specs.Prelude.{ℕ, Bool, true, false, cond, List, [], ◌∷◌, ◌++◌, Option, Some, None}
use Rattle.spec_record.specs.Recording.{Recording}
use Rattle.spec_segments.specs.Segments.{SegmentVerdict, Segments, Begins, Within}
use Rattle.spec_segments.specs.Segments.{at_start, verdict, with_packet}
use Rattle.spec_session.specs.Packets.{Packet, packet_of}
use Rattle.spec_session.specs.Session.{Rules, Accept, OtherSource, OffGrid, FarAhead}

-- whether a packet with this verdict is accepted, by the last segment or as the first of a new one
abbrev pub is_accepting : SegmentVerdict → Bool
is_accepting (Begins a) = true
is_accepting (Within (Accept a)) = true
is_accepting (Within (OtherSource kept got)) = false
is_accepting (Within (OffGrid delta)) = false
is_accepting (Within (FarAhead horizon last)) = false

-- whether a record, by the packet that it is, is accepted behind these segments
abbrev pub is_accepted : Rules → Segments → Option Packet → Bool
is_accepted rules s None = false
is_accepted rules s (Some x) = is_accepting (verdict rules s x)

-- the segments behind it
abbrev pub behind : Rules → Segments → Option Packet → Segments
behind rules s None = s
behind rules s (Some x) = with_packet rules s x

-- those of records behind these segments that are accepted packets, in order
abbrev pub accepted_behind : Recording → Segments → List (List ℕ) → List (List ℕ)
accepted_behind r s [] = []
accepted_behind r s (octets ∷ records) = let o = packet_of r.profile r.asked octets in
    cond (is_accepted r.rules s o) (octets ∷ []) []
    ++ accepted_behind r (behind r.rules s o) records

-- those of all records
abbrev pub accepted_records : Recording → List (List ℕ) → List (List ℕ)
accepted_records r records = accepted_behind r at_start records
