-- Copies in time, segment by segment: those of its accepted packets whose place is past the horizon
-- that the segment had before them less the window, and all of the packet that began it. This
-- project's own.
use Rattle.std.specs.Prelude.{List, map}
use Rattle.spec_segments.specs.Segments.{all_of, segments}
use Rattle.spec_session.specs.Copies.{Copy, copies_of}
use Rattle.spec_session.specs.Packets.{Packet}
use Rattle.spec_session.specs.Session.{Rules}

-- the copies in time of each segment of a list of well-formed packets
abbrev pub copies : Rules → List Packet → List (List Copy)
copies rules h = map (copies_of rules) (all_of (segments rules h))
