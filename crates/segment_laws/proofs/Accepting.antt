-- Where all packets are accepted there is one segment; and where there is one, the accepted packets alone are as the
-- whole list.
use Rattle.std.proofs.Common.{◌≡◌, ◌+◌, ◌-◌, ◌≤◌, List, [], ◌∷◌, ◌++◌, length, map, sum, sym, refl, ap, ◌∙◌, subst}
use Rattle.std.proofs.Common.{arith}
use Rattle.std.specs.Prelude.{fold}
use Rattle.std.proofs.lemmas.List.{length-append, length-map}
use Rattle.segment_laws.proofs.Alone.{all_alone}
use Rattle.segment_laws.proofs.Counting.{same_copies}
use Rattle.segment_laws.proofs.Single.{last_is, same_accepted, same_gone, same_released}
use Rattle.segment_laws.proofs.Steps.{Step, Joins, Opens, Stays, step}
use Rattle.segment_laws.specs.One.{IsOneSegment, in_segments, packets, without_refused}
use Rattle.spec_segments.specs.Counts.{copy_count, late_count}
use Rattle.spec_segments.specs.Release.{gone_out, released}
use Rattle.spec_segments.specs.Segments.{Segments, accepted, at_start, segments, with_packet}
use Rattle.spec_session.specs.Copies.{copies_of}
use Rattle.spec_session.specs.Counts.{different, late_in}
use Rattle.spec_session.specs.Packets.{Packet}
use Rattle.spec_session.specs.Release.{gone_of, released_of}
use Rattle.spec_session.specs.Session as session
use Rattle.spec_session.specs.Session.{Rules, Accepted, Verdict, Accept, OtherSource, OffGrid, FarAhead, taken, verdict}

-- a packet gives at most one
taken_most : (v : Verdict) → length (taken v) ≤ 1
taken_most (Accept a) = omega arith
taken_most (OtherSource kept got) = omega arith
taken_most (OffGrid delta) = omega arith
taken_most (FarAhead h last) = omega arith

accepts_most : (rules : Rules) (now : List Accepted) (h : List Packet) →
    length (fold (session.with_packet rules) now h) ≤ length now + length h
accepts_most rules now [] = omega arith
accepts_most rules now (x ∷ h) =
    let t = taken_most (verdict rules now x) in
    let r = accepts_most rules (now ++ taken (verdict rules now x)) h in
    omega (arith, length-append now (taken (verdict rules now x)))

-- an accepted packet closes no segment, and joins the last one
joins : (rules : Rules) (s : Segments) (x : Packet) (t : Segments) → Step rules s x t →
    1 ≤ length (taken (verdict rules s.last x)) → s.closed ≡ [] →
    (t.closed ≡ []) × (t.last ≡ session.with_packet rules s.last x)
joins rules s x t (Joins a v e) n c =
    (ap (λ (u : Segments). u.closed) e ∙ c, ap (λ (u : Segments). u.last) e ∙ ap (λ w. s.last ++ taken w) (sym v))
joins rules s x t (Opens m e) n c = absurd (let k = ap length m in omega arith)
joins rules s x t (Stays o m e) n c = absurd (let k = ap length m in omega arith)

none_closed : (rules : Rules) (h : List Packet) (s : Segments) → s.closed ≡ [] →
    length (fold (session.with_packet rules) s.last h) ≡ length s.last + length h →
    (fold (with_packet rules) s h).closed ≡ []
none_closed rules [] s c e = c
none_closed rules (x ∷ h) s c e =
    let v = verdict rules s.last x in
    let t = with_packet rules s x in
    let r = accepts_most rules (s.last ++ taken v) h in
    let n = length-append s.last (taken v) in
    let m = taken_most v in
    let j = joins rules s x t (step rules s x) (omega (arith, n)) c in
    let l = ap length j.1 in
    none_closed rules h t j.0 (ap (λ now. length (fold (session.with_packet rules) now h)) j.1 ∙ (omega (arith, n)))

pub one_segment : (rules : Rules) (h : List Packet) → length (session.accepted rules h) ≡ length h →
    IsOneSegment rules h
one_segment rules h e = none_closed rules h at_start refl (e ∙ omega arith)

-- the last segment alone is one segment
last_alone : (rules : Rules) (h : List Packet) → IsOneSegment rules (packets (segments rules h).last)
last_alone rules h =
    let l = (segments rules h).last in
    one_segment rules (packets l) (ap length (all_alone rules h).1 ∙ sym (length-map l (λ (a : Accepted). a.packet)))

-- what is accepted of the accepted packets alone
without : (rules : Rules) (h : List Packet) → IsOneSegment rules h →
    without_refused rules h ≡ packets (segments rules h).last
without rules h e = ap packets (same_accepted rules h e ∙ sym (last_is rules h e))

pub alone_is_one : (rules : Rules) (h : List Packet) → IsOneSegment rules h →
    IsOneSegment rules (without_refused rules h)
alone_is_one rules h e = subst (IsOneSegment rules) (sym (without rules h e)) (last_alone rules h)

session_alone : (rules : Rules) (h : List Packet) → IsOneSegment rules h →
    session.accepted rules (without_refused rules h) ≡ session.accepted rules h
session_alone rules h e = ap (session.accepted rules) (without rules h e) ∙ (all_alone rules h).1 ∙ last_is rules h e

alone_accepted : (rules : Rules) (h : List Packet) → IsOneSegment rules h →
    accepted rules (without_refused rules h) ≡ accepted rules h
alone_accepted rules h e =
    same_accepted rules (without_refused rules h) (alone_is_one rules h e)
    ∙ session_alone rules h e
    ∙ sym (same_accepted rules h e)

alone_released : (rules : Rules) (h : List Packet) → IsOneSegment rules h →
    released rules (without_refused rules h) ≡ released rules h
alone_released rules h e =
    same_released rules (without_refused rules h) (alone_is_one rules h e)
    ∙ ap (λ acc. released_of rules (copies_of rules acc)) (session_alone rules h e)
    ∙ sym (same_released rules h e)

alone_gone : (rules : Rules) (h : List Packet) → IsOneSegment rules h →
    gone_out rules (without_refused rules h) ≡ gone_out rules h
alone_gone rules h e =
    same_gone rules (without_refused rules h) (alone_is_one rules h e)
    ∙ ap (gone_of rules) (session_alone rules h e)
    ∙ sym (same_gone rules h e)

alone_late : (rules : Rules) (h : List Packet) → IsOneSegment rules h →
    late_count rules (without_refused rules h) ≡ late_count rules h
alone_late rules h e = ap (λ acc. sum (map (late_in rules) acc)) (alone_accepted rules h e)

alone_copies : (rules : Rules) (h : List Packet) → IsOneSegment rules h →
    copy_count rules (without_refused rules h) ≡ copy_count rules h
alone_copies rules h e =
    same_copies rules (without_refused rules h) (alone_is_one rules h e)
    ∙ ap (λ acc. length (copies_of rules acc) - different (copies_of rules acc)) (session_alone rules h e)
    ∙ sym (same_copies rules h e)

pub alone_reception : (rules : Rules) (h : List Packet) → IsOneSegment rules h →
    in_segments rules (without_refused rules h) ≡ in_segments rules h
alone_reception rules h e = λ i. record {
  accepted = alone_accepted rules h e i;
  released = alone_released rules h e i;
  gone = alone_gone rules h e i;
  late = alone_late rules h e i;
  copies = alone_copies rules h e i;
  blocks = length (alone_released rules h e i);
}
