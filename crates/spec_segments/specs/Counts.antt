-- The counts of a session in segments: packets that aren't accepted, late blocks, copies of the
-- same frame, and blocks released. This project's own.
use Rattle.std.specs.Prelude.{ℕ, ◌-◌, List, length, map, sum}
use Rattle.spec_segments.specs.Copies.{copies}
use Rattle.spec_segments.specs.Release.{released}
use Rattle.spec_segments.specs.Segments.{accepted}
use Rattle.spec_session.specs.Copies.{Copy}
use Rattle.spec_session.specs.Counts.{different, late_in}
use Rattle.spec_session.specs.Packets.{Packet}
use Rattle.spec_session.specs.Session.{Rules}

-- how many well-formed packets aren't accepted
abbrev pub refused_count : Rules → List Packet → ℕ
refused_count rules h = length h - length (accepted rules h)

-- the late blocks of all accepted packets
abbrev pub late_count : Rules → List Packet → ℕ
late_count rules h = sum (map (late_in rules) (accepted rules h))

-- how many copies came for a place and channel that had one already
abbrev pub repeats : List Copy → ℕ
repeats cs = length cs - different cs

-- the same over all segments, in each of them for its own places
abbrev pub copy_count : Rules → List Packet → ℕ
copy_count rules h = sum (map repeats (copies rules h))

-- the number of blocks released
abbrev pub block_count : Rules → List Packet → ℕ
block_count rules h = length (released rules h)
