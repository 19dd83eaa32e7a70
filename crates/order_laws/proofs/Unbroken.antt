-- Where as many packets are accepted as there are, none but the first begins a segment.
use Rattle.std.proofs.Common.{◌≡◌, ℕ, ◌+◌, ◌≤◌, true, false, cond, List, [], ◌∷◌, ◌++◌, length, refl, ap, arith, None}
use Rattle.std.specs.Prelude.{flat_map, fold}
use Rattle.std.proofs.lemmas.Grind.{flat_map-append}
use Rattle.std.proofs.lemmas.List.{append-nil, length-append}
use Rattle.segment_laws.specs.One.{IsOneSegment}
use Rattle.spec_segments.specs.Segments.{Begins, Segments, Within, accepted, accepted_of, follows, judged, passed, with_packet}
use Rattle.spec_session.specs.Packets.{Packet}
use Rattle.spec_session.specs.Session as session
use Rattle.spec_session.specs.Session.{Rules, Accepted, Verdict, Accept, OtherSource, OffGrid, FarAhead, begun}

-- how many packets are accepted
abbrev count : Segments → ℕ
count s = length (accepted_of s)

joined : (s : Segments) (a : Accepted) →
    length (flat_map (λ segment. segment) s.closed ++ (s.last ++ a ∷ [])) ≡ count s + 1
joined s a =
    let closed = flat_map (λ segment. segment) s.closed in
    omega (arith, length-append closed (s.last ++ a ∷ []), length-append s.last (a ∷ []), length-append closed s.last)

opened : (s : Segments) (a : Accepted) →
    length (flat_map (λ segment. segment) (s.closed ++ s.last ∷ []) ++ a ∷ []) ≡ count s + 1
opened s a =
    let closed = flat_map (λ segment. segment) s.closed in
    let all = flat_map (λ segment. segment) (s.closed ++ s.last ∷ []) in
    let each = ap length (flat_map-append (λ segment. segment) s.closed (s.last ∷ [])) in
    let last = ap length (append-nil s.last) in
    omega (arith, length-append all (a ∷ []), each, length-append closed (s.last ++ []), last, length-append closed s.last)

-- a packet that the last segment refuses begins another, or adds none
refused : (s : Segments) (x : Packet) (v : Verdict) → count (passed s x (Within v)) ≡ count s →
    count (passed s x (cond (follows s.stray x.sequence) (Begins (begun x)) (Within v))) ≤ count s + 1
refused s x v stays =
    elim (follows s.stray x.sequence) as (λ b. count (passed s x (cond b (Begins (begun x)) (Within v))) ≤ count s + 1) [
      | true ↦ omega (arith, opened s (begun x))
      | false ↦ omega (arith, stays)
    ]

one_by : (s : Segments) (x : Packet) (v : Verdict) → count (passed s x (judged s x v)) ≤ count s + 1
one_by s x (Accept a) = omega (arith, joined s a)
one_by s x (OtherSource kept got) = omega arith
one_by s x (OffGrid delta) = refused s x (OffGrid delta) refl
one_by s x (FarAhead h last) = refused s x (FarAhead h last) refl

most : (rules : Rules) (s : Segments) (h : List Packet) → count (fold (with_packet rules) s h) ≤ count s + length h
most rules s [] = omega arith
most rules s (x ∷ h) =
    let r = most rules (with_packet rules s x) h in
    omega (arith, r, one_by s x (session.verdict rules s.last x))

-- the first segment, behind an accepted packet
abbrev unbroken : List Accepted → Segments
unbroken last = record { closed = []; last = last; stray = None }

-- a packet that is refused is one too few
few : {P : Type 0} (rules : Rules) (last : List Accepted) (s : Segments) (x : Packet) (h : List Packet) → count s ≡ length last →
    count (fold (with_packet rules) s h) ≡ length last + length (x ∷ h) → P
few rules last s x h same e = absurd (omega (arith, same, e, most rules s h))

stays_by : (rules : Rules) (last : List Accepted) (x : Packet) (h : List Packet) (v : Verdict) →
    ((a : Accepted) → count (fold (with_packet rules) (unbroken (last ++ a ∷ [])) h) ≡ length (last ++ a ∷ []) + length h →
    (fold (with_packet rules) (unbroken (last ++ a ∷ [])) h).closed ≡ []) →
    count (fold (with_packet rules) (passed (unbroken last) x (judged (unbroken last) x v)) h) ≡ length last + length (x ∷ h) →
    (fold (with_packet rules) (passed (unbroken last) x (judged (unbroken last) x v)) h).closed ≡ []
stays_by rules last x h (Accept a) more e = more a (omega (arith, e, length-append last (a ∷ [])))
stays_by rules last x h (OtherSource kept got) more e = few rules last _ x h refl e
stays_by rules last x h (OffGrid delta) more e = few rules last _ x h refl e
stays_by rules last x h (FarAhead horizon end) more e = few rules last _ x h refl e

stays : (rules : Rules) (last : List Accepted) (h : List Packet) →
    count (fold (with_packet rules) (unbroken last) h) ≡ length last + length h →
    (fold (with_packet rules) (unbroken last) h).closed ≡ []
stays rules last [] e = refl
stays rules last (x ∷ h) e =
    stays_by rules last x h (session.verdict rules last x) (λ a. stays rules (last ++ a ∷ []) h) e

pub one_of_all : (rules : Rules) (h : List Packet) → length (accepted rules h) ≡ length h → IsOneSegment rules h
one_of_all rules h e = stays rules [] h (omega (arith, e))
