-- Where no packet but the first begins a segment, the last segment is the session.
use Rattle.std.proofs.Common.{◌≡◌, ℕ, ◌≤◌, List, [], ◌∷◌, ◌++◌, length, sym, refl, ap, ◌∙◌, arith}
use Rattle.std.specs.Prelude.{fold, flat_map}
use Rattle.std.proofs.lemmas.List.{append-nil, length-append}
use Rattle.segment_laws.proofs.Steps.{Step, Joins, Opens, Stays, step}
use Rattle.segment_laws.specs.One.{IsOneSegment}
use Rattle.spec_segments.specs.Release.{gone_in, gone_out, released, released_in}
use Rattle.spec_segments.specs.Segments.{Segments, accepted, at_start, segments, with_packet}
use Rattle.spec_session.specs.Copies.{copies_of}
use Rattle.spec_session.specs.Packets.{Packet}
use Rattle.spec_session.specs.Release as session_release
use Rattle.spec_session.specs.Release.{gone_of, released_of}
use Rattle.spec_session.specs.Session as session
use Rattle.spec_session.specs.Session.{Rules, Accepted, Verdict, Accept, OtherSource, OffGrid, FarAhead, taken, verdict}

-- how many segments are closed
abbrev pub closings : Rules → Segments → List Packet → ℕ
closings rules s h = length (fold (with_packet rules) s h).closed

closes_step : (rules : Rules) (s : Segments) (x : Packet) (t : Segments) → Step rules s x t →
    length s.closed ≤ length t.closed
closes_step rules s x t (Joins a v e) = let n = ap (λ (u : Segments). length u.closed) e in omega arith
closes_step rules s x t (Opens n e) =
    let m = ap (λ (u : Segments). length u.closed) e in
    omega (arith, length-append s.closed (s.last ∷ []))
closes_step rules s x t (Stays o n e) = let m = ap (λ (u : Segments). length u.closed) e in omega arith

pub closes_more : (rules : Rules) (h : List Packet) (s : Segments) → length s.closed ≤ closings rules s h
closes_more rules [] s = omega arith
closes_more rules (x ∷ h) s =
    let k = closes_step rules s x (with_packet rules s x) (step rules s x) in
    let m = closes_more rules h (with_packet rules s x) in
    omega arith

-- where no segment is closed, a packet does to the last one what it does to a session
same_step : (rules : Rules) (s : Segments) (x : Packet) (t : Segments) → Step rules s x t →
    length t.closed ≤ length s.closed → t.last ≡ session.with_packet rules s.last x
same_step rules s x t (Joins a v e) k = ap (λ (u : Segments). u.last) e ∙ ap (λ w. s.last ++ taken w) (sym v)
same_step rules s x t (Opens n e) k =
    absurd (let m = ap (λ (u : Segments). length u.closed) e in omega (arith, length-append s.closed (s.last ∷ [])))
same_step rules s x t (Stays o n e) k =
    ap (λ (u : Segments). u.last) e ∙ sym (append-nil s.last) ∙ ap (λ w. s.last ++ w) (sym n)

same_last : (rules : Rules) (h : List Packet) (s : Segments) → closings rules s h ≤ length s.closed →
    (fold (with_packet rules) s h).last ≡ fold (session.with_packet rules) s.last h
same_last rules [] s k = refl
same_last rules (x ∷ h) s k =
    let t = with_packet rules s x in
    let m = closes_step rules s x t (step rules s x) in
    let n = closes_more rules h t in
    same_last rules h t (omega arith)
    ∙ ap (λ l. fold (session.with_packet rules) l h) (same_step rules s x t (step rules s x) (omega arith))

pub last_is : (rules : Rules) (h : List Packet) → IsOneSegment rules h →
    (segments rules h).last ≡ session.accepted rules h
last_is rules h e = same_last rules h at_start (let n = ap length e in omega arith)

-- of segments none of which is closed
accepted_one : (s : Segments) → s.closed ≡ [] → flat_map (λ segment. segment) s.closed ++ s.last ≡ s.last
accepted_one s e = ap (λ c. flat_map (λ segment. segment) c ++ s.last) e

released_one : (rules : Rules) (s : Segments) → s.closed ≡ [] →
    released_in rules s ≡ released_of rules (copies_of rules s.last)
released_one rules s e =
    ap (λ c. flat_map (λ a. released_of rules (copies_of rules a)) c ++ released_of rules (copies_of rules s.last)) e

gone_one : (rules : Rules) (s : Segments) → s.closed ≡ [] → gone_in rules s ≡ gone_of rules s.last
gone_one rules s e = ap (λ c. flat_map (λ a. released_of rules (copies_of rules a)) c ++ gone_of rules s.last) e

pub same_accepted : (rules : Rules) (h : List Packet) → IsOneSegment rules h →
    accepted rules h ≡ session.accepted rules h
same_accepted rules h e = accepted_one (segments rules h) e ∙ last_is rules h e

pub same_released : (rules : Rules) (h : List Packet) → IsOneSegment rules h →
    released rules h ≡ session_release.released rules h
same_released rules h e =
    released_one rules (segments rules h) e ∙ ap (λ a. released_of rules (copies_of rules a)) (last_is rules h e)

pub same_gone : (rules : Rules) (h : List Packet) → IsOneSegment rules h →
    gone_out rules h ≡ session_release.gone_out rules h
same_gone rules h e = gone_one rules (segments rules h) e ∙ ap (gone_of rules) (last_is rules h e)
