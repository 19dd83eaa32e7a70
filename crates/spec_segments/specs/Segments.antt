-- The segments of a session: this project's own. A source that starts anew with another timestamp
-- sends packets that the segment so far refuses as off the grid of frame times or as too far ahead.
-- The second of two that come in sequence begins a new segment, and places count from its timestamp
-- then.
use Rattle.std.specs.Prelude.{ℕ, ◌+◌, ◌%◌, ◌^◌, Bool, false, cond, nat_eq, ℤ, Option, Some, None}
use Rattle.std.specs.Prelude.{List, [], ◌∷◌, ◌++◌, fold, flat_map}
use Rattle.spec_session.specs.Packets.{Packet}
use Rattle.spec_session.specs.Session as session
use Rattle.spec_session.specs.Session.{Rules, Accepted, begun, horizon_of}
use Rattle.spec_session.specs.Session.{Verdict, Accept, OtherSource, OffGrid, FarAhead}

-- the accepted packets of each closed segment and of the last one, in order and with the places of
-- their segment; and the stray: the sequence number of the last packet of the source, if that was
-- refused
pub record Segments : Type 0 where
  pub closed : List (List Accepted)
  pub last : List Accepted
  pub stray : Option ℕ

-- what becomes of a packet: the last segment accepts or refuses it, or a new segment begins with it
pub data SegmentVerdict : Type 0 where
  Within : Verdict → SegmentVerdict
  Begins : Accepted → SegmentVerdict

-- before the first packet, which the first segment will accept as the one that begins it
abbrev pub at_start : Segments
at_start = record { closed = []; last = []; stray = None }

-- whether a sequence number is the one behind the stray's
abbrev pub follows : Option ℕ → ℕ → Bool
follows None sequence = false
follows (Some stray) sequence = nat_eq sequence ((stray + 1) % 2 ^ 16)

-- a packet of the source that the last segment refuses begins a new one where it follows the stray
abbrev pub unplaced : Segments → Packet → Verdict → SegmentVerdict
unplaced s x refusal = cond (follows s.stray x.sequence) (Begins (begun x)) (Within refusal)

-- what the verdict of the last segment comes to
abbrev pub judged : Segments → Packet → Verdict → SegmentVerdict
judged s x (Accept a) = Within (Accept a)
judged s x (OtherSource kept got) = Within (OtherSource kept got)
judged s x (OffGrid delta) = unplaced s x (OffGrid delta)
judged s x (FarAhead horizon last) = unplaced s x (FarAhead horizon last)

-- the verdict on a packet behind these segments; a refusal has the numbers of the last one
abbrev pub verdict : Rules → Segments → Packet → SegmentVerdict
verdict rules s x = judged s x (session.verdict rules s.last x)

-- a refused packet of the source is the stray
abbrev pub strayed : Segments → Packet → Segments
strayed s x = record { closed = s.closed; last = s.last; stray = Some x.sequence }

-- the segments behind a verdict; a packet of another source leaves them as they are
abbrev pub passed : Segments → Packet → SegmentVerdict → Segments
passed s x (Begins a) = record { closed = s.closed ++ s.last ∷ []; last = a ∷ []; stray = None }
passed s x (Within (Accept a)) = record { closed = s.closed; last = s.last ++ a ∷ []; stray = None }
passed s x (Within (OtherSource kept got)) = s
passed s x (Within (OffGrid delta)) = strayed s x
passed s x (Within (FarAhead horizon last)) = strayed s x

abbrev pub with_packet : Rules → Segments → Packet → Segments
with_packet rules s x = passed s x (verdict rules s x)

-- the segments of a list of well-formed packets
abbrev pub segments : Rules → List Packet → Segments
segments rules h = fold (with_packet rules) at_start h

-- all segments in order
abbrev pub all_of : Segments → List (List Accepted)
all_of s = s.closed ++ s.last ∷ []

-- the accepted packets of all segments, in order
abbrev pub accepted_of : Segments → List Accepted
accepted_of s = flat_map (λ segment. segment) s.closed ++ s.last

abbrev pub accepted : Rules → List Packet → List Accepted
accepted rules h = accepted_of (segments rules h)

-- the horizon is that of the last segment; none where there are no packets
abbrev pub horizon : Rules → List Packet → Option ℤ
horizon rules h = horizon_of rules (segments rules h).last
