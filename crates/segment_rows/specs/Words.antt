-- The words of the worked examples of segments: logs of AMR, one channel, bandwidth-efficient, each
-- packet with one frame of type 7 whose bits are 0.
use Rattle.std.specs.Prelude.{ℕ, List, ◌++◌, ◌∷◌, length, map, Option, None}
use Rattle.std.specs.Option.{option_map}
use Rattle.spec_packet.specs.Log.{cut, framed}
use Rattle.spec_segments.specs.Counts.{block_count, copy_count, late_count, refused_count}
use Rattle.spec_segments.specs.Release.{gone_out}
use Rattle.spec_segments.specs.Segments.{SegmentVerdict, all_of, segments, verdict}
use Rattle.spec_session.specs.Packets.{Packet, packet_of, packets_of}
use Rattle.spec_session.specs.Session.{Rules, rules_of}
use Rattle.worked_rows.specs.Words as worked
use Rattle.worked_rows.specs.Words.{packed, rec, rtp, seven, zeros}

-- a record with a packet of this sequence number and timestamp, source 0, and its frame as it is
-- stored
abbrev pub at : ℕ → ℕ → List ℕ
at sequence timestamp = rec sequence timestamp seven

abbrev pub stored : List ℕ
stored = 0x3C ∷ zeros 31

-- a source that starts anew: off the grid of frame times, and past the reach
abbrev pub off_grid : List ℕ
off_grid = at 0 0 ++ at 1 161 ++ at 2 321

abbrev pub past_reach : List ℕ
past_reach = at 0 0 ++ at 1 7200160 ++ at 2 7200320

-- the first of these with a packet of another source between the last two
abbrev pub two_sources : List ℕ
two_sources = at 0 0 ++ at 1 161 ++ framed (rtp 9 160 1 seven) ++ at 2 321

-- a window of 256 or of 1, and a reach of 45000
abbrev pub wide : Rules
wide = rules_of packed 256 45000

abbrev pub narrow : Rules
narrow = rules_of packed 1 45000

abbrev pub heard : List ℕ → List Packet
heard log = packets_of packed None (cut log).packets

-- how many packets are accepted in each segment
abbrev pub sizes : List ℕ → List ℕ
sizes log = map length (all_of (segments wide (heard log)))

-- the file that is written for a log
abbrev pub file : List ℕ → List ℕ
file log = worked.file packed log

-- how many packets aren't accepted, and the counts of the session
pub record Counts : Type 0 where
  pub place : ℕ
  pub late : ℕ
  pub copies : ℕ
  pub blocks : ℕ

abbrev pub counts : Rules → List ℕ → Counts
counts rules log = let h = heard log in record {
  place = refused_count rules h;
  late = late_count rules h;
  copies = copy_count rules h;
  blocks = block_count rules h;
}

-- what becomes of a packet with this sequence number and timestamp behind a log
abbrev pub next : List ℕ → ℕ → ℕ → Option SegmentVerdict
next log sequence timestamp = option_map (verdict wide (segments wide (heard log)))
    (packet_of packed None (rtp sequence timestamp 0 seven))

-- how many blocks have gone out behind a log
abbrev pub out : Rules → List ℕ → ℕ
out rules log = length (gone_out rules (heard log))
