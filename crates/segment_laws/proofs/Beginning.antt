-- That no packet begins a segment is the same as that none is closed.
use Rattle.std.proofs.Common.{◌≡◌, ◌≤◌, List, [], ◌∷◌, ◌++◌, length, refl, ap, ◌∙◌, arith}
use Rattle.std.specs.Prelude.{◌↔◌, fold}
use Rattle.std.proofs.lemmas.List.{length-append}
use Rattle.std.proofs.lemmas.List.Sums.{fold-append}
use Rattle.segment_laws.proofs.Single.{closes_more, closings}
use Rattle.segment_laws.specs.One.{IsOneSegment, NoneBegins}
use Rattle.spec_segments.specs.Segments.{Segments, SegmentVerdict, Begins, Within, at_start, passed, segments, verdict}
use Rattle.spec_segments.specs.Segments.{with_packet}
use Rattle.spec_session.specs.Packets.{Packet}
use Rattle.spec_session.specs.Session.{Rules, Accepted, Accept, OtherSource, OffGrid, FarAhead}

-- a segment that was begun stays
begun_stays : (rules : Rules) (s : Segments) (x : Packet) (a : Accepted) (after : List Packet) →
    verdict rules s x ≡ Begins a → 1 ≤ closings rules s (x ∷ after)
begun_stays rules s x a after e =
    let t = with_packet rules s x in
    let n = ap (λ w. length (passed s x w).closed) e in
    let m = closes_more rules after t in
    let k = length-append s.closed (s.last ∷ []) in
    omega (arith, k)

none_begins : (rules : Rules) (h : List Packet) → IsOneSegment rules h → NoneBegins rules h
none_begins rules h one before after x a e v =
    let n = begun_stays rules (segments rules before) x a after v in
    let whole : segments rules h ≡ fold (with_packet rules) (segments rules before) (x ∷ after) =
    ap (segments rules) e
    ∙ fold-append (with_packet rules) at_start before (x ∷ after) in
    let m = ap (λ (s : Segments). length s.closed) whole in
    let k = ap length one in
    omega arith

-- what doesn't begin a segment closes none
closes_none : (s : Segments) (x : Packet) (w : SegmentVerdict) → s.closed ≡ [] → ((a : Accepted) → w ≡ Begins a → ⊥) →
    (passed s x w).closed ≡ []
closes_none s x (Begins a) c no_begin = absurd (no_begin a refl)
closes_none s x (Within (Accept a)) c no_begin = c
closes_none s x (Within (OtherSource kept got)) c no_begin = c
closes_none s x (Within (OffGrid delta)) c no_begin = c
closes_none s x (Within (FarAhead horizon last)) c no_begin = c

-- no packet begins a segment behind these
abbrev NoneBeginsFrom : Rules → Segments → List Packet → Type 0
NoneBeginsFrom rules s h = (before after : List Packet) (x : Packet) (a : Accepted) →
    h ≡ before ++ x ∷ after → verdict rules (fold (with_packet rules) s before) x ≡ Begins a → ⊥

all_close_none : (rules : Rules) (s : Segments) (h : List Packet) → s.closed ≡ [] →
    NoneBeginsFrom rules s h → (fold (with_packet rules) s h).closed ≡ []
all_close_none rules s [] c no_begin = c
all_close_none rules s (x ∷ h) c no_begin =
    all_close_none rules (with_packet rules s x) h
    (closes_none s x (verdict rules s x) c (λ a e. no_begin [] h x a refl e))
    (λ before after y a e v. no_begin (x ∷ before) after y a (ap (λ l. x ∷ l) e) v)

pub one_where_none_begins : (rules : Rules) (h : List Packet) → IsOneSegment rules h ↔ NoneBegins rules h
one_where_none_begins rules h = (none_begins rules h, all_close_none rules at_start h refl)
