-- What one more packet puts out.
use Rattle.std.proofs.Common.{◌≡◌, List, [], ◌∷◌, ◌++◌, refl, ap, ◌∙◌}
use Rattle.std.specs.Prelude.{flat_map}
use Rattle.std.proofs.lemmas.List.{append-nil}
use Rattle.std.proofs.lemmas.List.Concat.{flat_map-append}
use Rattle.std.proofs.lemmas.List.Sums.{fold-append}
use Rattle.spec_segments.specs.Release.{gone_in, gone_out, released, released_closed, released_segment}
use Rattle.spec_segments.specs.Segments.{SegmentVerdict, Segments, Begins, Within, at_start, passed, segments}
use Rattle.spec_segments.specs.Segments.{verdict, with_packet}
use Rattle.spec_session.specs.Packets.{Packet}
use Rattle.spec_session.specs.Release.{gone_of}
use Rattle.spec_session.specs.Session.{Rules, Accepted, Verdict, Accept, OtherSource, OffGrid, FarAhead, taken}

-- the segments behind one more packet
more : (rules : Rules) (h : List Packet) (x : Packet) (w : SegmentVerdict) → verdict rules (segments rules h) x ≡ w →
    segments rules (h ++ x ∷ []) ≡ passed (segments rules h) x w
more rules h x w e = fold-append (with_packet rules) at_start h (x ∷ []) ∙ ap (passed (segments rules h) x) e

pub joined_puts : (rules : Rules) (h : List Packet) (x : Packet) (a : Accepted) →
    verdict rules (segments rules h) x ≡ Within (Accept a) →
    gone_out rules (h ++ x ∷ [])
    ≡ released_closed rules (segments rules h) ++ gone_of rules ((segments rules h).last ++ a ∷ [])
joined_puts rules h x a e = ap (gone_in rules) (more rules h x (Within (Accept a)) e)

-- what is released of the closed segments where the last one is closed too
closed_more : (rules : Rules) (s : Segments) →
    flat_map (released_segment rules) (s.closed ++ s.last ∷ [])
    ≡ released_closed rules s ++ released_segment rules s.last
closed_more rules s =
    flat_map-append (released_segment rules) s.closed (s.last ∷ [])
    ∙ ap (λ xs. released_closed rules s ++ xs) (append-nil (released_segment rules s.last))

pub begun_puts : (rules : Rules) (h : List Packet) (x : Packet) (a : Accepted) →
    verdict rules (segments rules h) x ≡ Begins a →
    gone_out rules (h ++ x ∷ []) ≡ released rules h ++ gone_of rules (a ∷ [])
begun_puts rules h x a e =
    ap (gone_in rules) (more rules h x (Begins a) e)
    ∙ ap (λ xs. xs ++ gone_of rules (a ∷ [])) (closed_more rules (segments rules h))

passed_puts : (rules : Rules) (s : Segments) (x : Packet) (v : Verdict) → taken v ≡ [] →
    gone_in rules (passed s x (Within v)) ≡ gone_in rules s
passed_puts rules s x (Accept a) e = absurd cc
passed_puts rules s x (OtherSource kept got) e = refl
passed_puts rules s x (OffGrid delta) e = refl
passed_puts rules s x (FarAhead horizon last) e = refl

pub refused_puts : (rules : Rules) (h : List Packet) (x : Packet) (v : Verdict) →
    verdict rules (segments rules h) x ≡ Within v → taken v ≡ [] → gone_out rules (h ++ x ∷ []) ≡ gone_out rules h
refused_puts rules h x v e none =
    ap (gone_in rules) (more rules h x (Within v) e) ∙ passed_puts rules (segments rules h) x v none
