-- What is released: segment behind segment, of each what is released of a session. This project's
-- own.
use Rattle.std.specs.Prelude.{List, ◌++◌, flat_map, ℤ}
use Rattle.amr_frame.specs.Frames.{Frame}
use Rattle.spec_segments.specs.Segments.{Segments, segments}
use Rattle.spec_session.specs.Copies.{copies_of}
use Rattle.spec_session.specs.Packets.{Packet}
use Rattle.spec_session.specs.Release.{gone_of, released_of, released_to}
use Rattle.spec_session.specs.Session.{Rules, Accepted}

-- what is released of a segment, by its accepted packets
abbrev pub released_segment : Rules → List Accepted → List (List Frame)
released_segment rules segment = released_of rules (copies_of rules segment)

-- what is released of the closed segments
abbrev pub released_closed : Rules → Segments → List (List Frame)
released_closed rules s = flat_map (released_segment rules) s.closed

-- what is released of all segments
abbrev pub released_in : Rules → Segments → List (List Frame)
released_in rules s = released_closed rules s ++ released_segment rules s.last

-- of the closed ones all, and of the last one the part with places up to t
abbrev pub released_in_to : Rules → Segments → ℤ → List (List Frame)
released_in_to rules s t = released_closed rules s ++ released_to rules (copies_of rules s.last) t

-- what has gone out while the session lasts: of the closed segments all, and of the last one the
-- part with places up to its horizon less the window
abbrev pub gone_in : Rules → Segments → List (List Frame)
gone_in rules s = released_closed rules s ++ gone_of rules s.last

-- the same of a list of well-formed packets
abbrev pub released : Rules → List Packet → List (List Frame)
released rules h = released_in rules (segments rules h)

abbrev pub released_up_to : Rules → List Packet → ℤ → List (List Frame)
released_up_to rules h t = released_in_to rules (segments rules h) t

abbrev pub gone_out : Rules → List Packet → List (List Frame)
gone_out rules h = gone_in rules (segments rules h)
