-- What was released stays a front of what is released of any longer list, also where new segments begin.
use Rattle.std.proofs.Common.{◌≡◌, List, ◌∷◌, ◌++◌, sym, refl, ap, ◌∙◌, subst, Some, ℤ, pos, ◌-ℤ◌}
use Rattle.std.specs.Prelude.{flat_map}
use Rattle.std.specs.List.{AllByRecursion}
use Rattle.std.proofs.lemmas.List.{append_assoc, map-append}
use Rattle.std.proofs.lemmas.List.Concat.{flat_map-append}
use Rattle.amr_bits.proofs.Lists.{split_all}
use Rattle.amr_frame.specs.Frames.{Frame}
use Rattle.segment_laws.proofs.Alone.{AllAlone, all_alone}
use Rattle.segment_laws.proofs.Growing.{GoesOn, Last, Closed, goes_on_from}
use Rattle.segment_laws.specs.Kept.{IsFront}
use Rattle.segment_laws.specs.One.{IsAlone, packets}
use Rattle.session_laws.proofs.Gone.{gone_by, released_by}
use Rattle.spec_segments.specs.Release.{gone_in, gone_out, released, released_closed, released_in, released_segment}
use Rattle.spec_segments.specs.Release.{released_up_to}
use Rattle.spec_segments.specs.Segments.{Segments, horizon, segments}
use Rattle.spec_session.specs.Copies.{copies_of}
use Rattle.spec_session.specs.Packets.{Packet}
use Rattle.spec_session.specs.Release.{gone_at, gone_of}
use Rattle.spec_session.specs.Session as session
use Rattle.spec_session.specs.Session.{Rules, Accepted, horizon_of}

-- the packets of a segment and of what it goes on with
both : (rules : Rules) (segment later : List Accepted) → IsAlone rules (segment ++ later) →
    session.accepted rules (packets segment ++ packets later) ≡ segment ++ later
both rules segment later k =
    ap (session.accepted rules) (sym (map-append (λ (a : Accepted). a.packet) segment later)) ∙ k

-- what has gone out of a segment is a front of what goes out of it later, and of what is released of it
segment_gone : (rules : Rules) (segment later : List Accepted) → IsAlone rules segment →
    IsAlone rules (segment ++ later) → IsFront (gone_of rules segment) (gone_of rules (segment ++ later))
segment_gone rules segment later k l =
    let h = packets segment in
    let g = gone_by rules h (packets later) (session.horizon rules h) refl in
    (g.0, ap (gone_of rules) (sym (both rules segment later l)) ∙ g.1 ∙ ap (λ a. gone_of rules a ++ g.0) k)

segment_released : (rules : Rules) (segment later : List Accepted) → IsAlone rules segment →
    IsAlone rules (segment ++ later) → IsFront (gone_of rules segment) (released_segment rules (segment ++ later))
segment_released rules segment later k l =
    let h = packets segment in
    let g = released_by rules h (packets later) (session.horizon rules h) refl in
    (g.0, ap (released_segment rules) (sym (both rules segment later l)) ∙ g.1 ∙ ap (λ a. gone_of rules a ++ g.0) k)

-- a common front
under : (front xs ys : List (List Frame)) → IsFront xs ys → IsFront (front ++ xs) (front ++ ys)
under front xs ys b = (b.0, ap (λ z. front ++ z) b.1 ∙ sym (append_assoc front xs b.0))

-- what comes behind
before_more : (xs ys more : List (List Frame)) → IsFront xs ys → IsFront xs (ys ++ more)
before_more xs ys more b = (b.0 ++ more, ap (λ z. z ++ more) b.1 ∙ append_assoc xs b.0 more)

-- what is released of further segments
abbrev behind : Rules → List (List Accepted) → List (List Frame)
behind rules begun = flat_map (released_segment rules) begun

-- where the last segment is closed, all of it is released, and then the others
closed_of : (rules : Rules) (s t : Segments) (later : List Accepted) (begun : List (List Accepted)) →
    t.closed ≡ s.closed ++ (s.last ++ later) ∷ begun →
    released_closed rules t
    ≡ (released_closed rules s ++ released_segment rules (s.last ++ later)) ++ behind rules begun
closed_of rules s t later begun e =
    ap (flat_map (released_segment rules)) e
    ∙ flat_map-append (released_segment rules) s.closed ((s.last ++ later) ∷ begun)
    ∙ sym (append_assoc (released_closed rules s) (released_segment rules (s.last ++ later)) (behind rules begun))

closed_front : (rules : Rules) (s t : Segments) (later : List Accepted) (begun : List (List Accepted)) →
    t.closed ≡ s.closed ++ (s.last ++ later) ∷ begun → AllAlone rules s → AllAlone rules t →
    IsFront (gone_in rules s) (released_closed rules t)
closed_front rules s t later begun e k l =
    let closed : AllByRecursion (IsAlone rules) (s.closed ++ (s.last ++ later) ∷ begun) =
    subst (AllByRecursion (IsAlone rules)) e l.0 in
    let alone = (split_all (IsAlone rules) s.closed ((s.last ++ later) ∷ begun) closed).1.0 in
    let whole = released_segment rules (s.last ++ later) in
    let front = released_closed rules s in
    let c = under front (gone_of rules s.last) whole (segment_released rules s.last later k.1 alone) in
    let b = before_more (gone_in rules s) (front ++ whole) (behind rules begun) c in
    (b.0, closed_of rules s t later begun e ∙ b.1)

last_alone : (rules : Rules) (s t : Segments) (later : List Accepted) → t.last ≡ s.last ++ later → AllAlone rules t →
    IsAlone rules (s.last ++ later)
last_alone rules s t later m l = subst (IsAlone rules) m l.1

-- where the last segment goes on
gone_last : (rules : Rules) (s t : Segments) (later : List Accepted) → t.closed ≡ s.closed →
    t.last ≡ s.last ++ later → gone_in rules t ≡ released_closed rules s ++ gone_of rules (s.last ++ later)
gone_last rules s t later d m =
    ap (λ c. flat_map (released_segment rules) c ++ gone_of rules t.last) d
    ∙ ap (λ a. released_closed rules s ++ gone_of rules a) m

released_last : (rules : Rules) (s t : Segments) (later : List Accepted) → t.closed ≡ s.closed →
    t.last ≡ s.last ++ later → released_in rules t ≡ released_closed rules s ++ released_segment rules (s.last ++ later)
released_last rules s t later d m =
    ap (λ c. flat_map (released_segment rules) c ++ released_segment rules t.last) d
    ∙ ap (λ a. released_closed rules s ++ released_segment rules a) m

gone_on : (rules : Rules) (s t : Segments) → GoesOn s t → AllAlone rules s → AllAlone rules t →
    IsFront (gone_in rules s) (gone_in rules t)
gone_on rules s t (Last later d m) k l =
    let c = segment_gone rules s.last later k.1 (last_alone rules s t later m l) in
    let b = under (released_closed rules s) (gone_of rules s.last) (gone_of rules (s.last ++ later)) c in
    (b.0, gone_last rules s t later d m ∙ b.1)
gone_on rules s t (Closed later begun e) k l =
    before_more (gone_in rules s) (released_closed rules t) (gone_of rules t.last)
    (closed_front rules s t later begun e k l)

released_on : (rules : Rules) (s t : Segments) → GoesOn s t → AllAlone rules s → AllAlone rules t →
    IsFront (gone_in rules s) (released_in rules t)
released_on rules s t (Last later d m) k l =
    let c = segment_released rules s.last later k.1 (last_alone rules s t later m l) in
    let b = under (released_closed rules s) (gone_of rules s.last) (released_segment rules (s.last ++ later)) c in
    (b.0, released_last rules s t later d m ∙ b.1)
released_on rules s t (Closed later begun e) k l =
    before_more (gone_in rules s) (released_closed rules t) (released_segment rules t.last)
    (closed_front rules s t later begun e k l)

-- of lists of packets
pub gone_stays : (rules : Rules) (h more : List Packet) → IsFront (gone_out rules h) (gone_out rules (h ++ more))
gone_stays rules h more =
    gone_on rules (segments rules h) (segments rules (h ++ more)) (goes_on_from rules h more) (all_alone rules h)
    (all_alone rules (h ++ more))

pub gone_in_release : (rules : Rules) (h more : List Packet) → IsFront (gone_out rules h) (released rules (h ++ more))
gone_in_release rules h more =
    released_on rules (segments rules h) (segments rules (h ++ more)) (goes_on_from rules h more) (all_alone rules h)
    (all_alone rules (h ++ more))

-- what has gone out is the release up to the horizon less the window
pub gone_is : (rules : Rules) (h : List Packet) (z : ℤ) → horizon rules h ≡ Some z →
    gone_out rules h ≡ released_up_to rules h (z -ℤ pos rules.window)
gone_is rules h z e =
    let s = segments rules h in
    ap (λ o. released_closed rules s ++ gone_at rules o (copies_of rules s.last)) e

pub released_stays : (rules : Rules) (h more : List Packet) (z : ℤ) → horizon rules h ≡ Some z →
    IsFront (released_up_to rules h (z -ℤ pos rules.window)) (released rules (h ++ more))
released_stays rules h more z e =
    subst (λ xs. IsFront xs (released rules (h ++ more))) (gone_is rules h z e) (gone_in_release rules h more)

pub released_grows : (rules : Rules) (h more : List Packet) (z z' : ℤ) → horizon rules h ≡ Some z →
    horizon rules (h ++ more) ≡ Some z' →
    IsFront (released_up_to rules h (z -ℤ pos rules.window)) (released_up_to rules (h ++ more) (z' -ℤ pos rules.window))
released_grows rules h more z z' e f =
    subst (λ xs. IsFront xs (released_up_to rules (h ++ more) (z' -ℤ pos rules.window))) (gone_is rules h z e)
    (subst (IsFront (gone_out rules h)) (gone_is rules (h ++ more) z' f) (gone_stays rules h more))
