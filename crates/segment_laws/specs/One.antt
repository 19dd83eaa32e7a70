-- Sessions of one segment.
use Rattle.std.specs.Prelude.{◌≡◌, ℕ, List, [], ◌∷◌, ◌++◌, map}
use Rattle.amr_frame.specs.Frames.{Frame}
use Rattle.spec_segments.specs.Counts.{block_count, copy_count, late_count}
use Rattle.spec_segments.specs.Release.{gone_out, released}
use Rattle.spec_segments.specs.Segments.{Begins, accepted, segments, verdict}
use Rattle.spec_session.specs.Counts as session_counts
use Rattle.spec_session.specs.Packets.{Packet}
use Rattle.spec_session.specs.Release as session_release
use Rattle.spec_session.specs.Session as session
use Rattle.spec_session.specs.Session.{Rules, Accepted}

-- no segment is closed
abbrev pub IsOneSegment : Rules → List Packet → Type 0
IsOneSegment rules h = (segments rules h).closed ≡ []

-- no packet but the first begins a segment
abbrev pub NoneBegins : Rules → List Packet → Type 0
NoneBegins rules h = (before after : List Packet) (x : Packet) (a : Accepted)
    → h ≡ before ++ x ∷ after → verdict rules (segments rules before) x ≡ Begins a → ⊥

abbrev pub packets : List Accepted → List Packet
packets segment = map (λ (a : Accepted). a.packet) segment

-- of the packets of a segment alone all are accepted, where they stand in it
abbrev pub IsAlone : Rules → List Accepted → Type 0
IsAlone rules segment = session.accepted rules (packets segment) ≡ segment

-- the accepted packets alone
abbrev pub without_refused : Rules → List Packet → List Packet
without_refused rules h = packets (accepted rules h)

-- what comes of packets: which are accepted, which blocks are released, which of them have gone out
-- while more packets may come, how many blocks were late, how many copies came for a place and
-- channel that had one already, and how many blocks are released
pub record Reception : Type 0 where
  pub accepted : List Accepted
  pub released : List (List Frame)
  pub gone : List (List Frame)
  pub late : ℕ
  pub copies : ℕ
  pub blocks : ℕ

-- the same in segments
abbrev pub in_segments : Rules → List Packet → Reception
in_segments rules h = record {
  accepted = accepted rules h;
  released = released rules h;
  gone = gone_out rules h;
  late = late_count rules h;
  copies = copy_count rules h;
  blocks = block_count rules h;
}

-- and in a session without segments
abbrev pub in_session : Rules → List Packet → Reception
in_session rules h = record {
  accepted = session.accepted rules h;
  released = session_release.released rules h;
  gone = session_release.gone_out rules h;
  late = session_counts.late_count rules h;
  copies = session_counts.copy_count rules h;
  blocks = session_counts.block_count rules h;
}
