-- What a longer session keeps of the segments, and that what joins the last one comes at its horizon or later.
use Rattle.std.proofs.Common.{◌≡◌, List, [], ◌∷◌, ◌++◌, sym, ap, ◌∙◌, subst, Some, ℤ}
use Rattle.std.specs.Prelude.{flat_map}
use Rattle.std.specs.List.{AllByRecursion}
use Rattle.std.proofs.lemmas.List.{append-nil, append_assoc, map-append}
use Rattle.std.proofs.lemmas.List.Concat.{flat_map-append}
use Rattle.amr_bits.proofs.Lists.{split_all}
use Rattle.segment_laws.proofs.Alone.{AllAlone, all_alone}
use Rattle.segment_laws.proofs.Growing.{GoesOn, Last, Closed, goes_on_from}
use Rattle.segment_laws.specs.Kept.{IsFront, Keeps}
use Rattle.segment_laws.specs.One.{IsAlone, packets}
use Rattle.session_laws.proofs.Sessions as laws
use Rattle.session_laws.specs.Later.{Later}
use Rattle.spec_segments.specs.Segments.{Segments, accepted, accepted_of, all_of, segments}
use Rattle.spec_session.specs.Packets.{Packet}
use Rattle.spec_session.specs.Session as session
use Rattle.spec_session.specs.Session.{Rules, Accepted, horizon_of}

cons_same : {X : Type 0} (x y : X) (xs ys : List X) → x ∷ xs ≡ y ∷ ys → xs ≡ ys
cons_same x y xs ys e = cc

-- behind the same front
same_rest : {X : Type 0} (front xs ys : List X) → front ++ xs ≡ front ++ ys → xs ≡ ys
same_rest [] xs ys e = e
same_rest (z ∷ front) xs ys e = same_rest front xs ys (cons_same z z (front ++ xs) (front ++ ys) e)

-- what a segment goes on with comes at its horizon or later
comes_later : (rules : Rules) (segment later : List Accepted) (z : ℤ) → IsAlone rules segment →
    IsAlone rules (segment ++ later) → horizon_of rules segment ≡ Some z → AllByRecursion (Later z) later
comes_later rules segment later z k l e =
    let h = packets segment in
    let on = laws.goes_on_from rules h (packets later) z (ap (horizon_of rules) k ∙ e) in
    let parts = map-append (λ (a : Accepted). a.packet) segment later in
    let whole : segment ++ later ≡ segment ++ on.0 =
    sym l ∙ ap (session.accepted rules) parts ∙ on.1 ∙ ap (λ xs. xs ++ on.0) k in
    subst (AllByRecursion (Later z)) (sym (same_rest segment later on.0 whole)) on.2

closed_alone : (rules : Rules) (s t : Segments) (later : List Accepted) (begun : List (List Accepted)) →
    t.closed ≡ s.closed ++ (s.last ++ later) ∷ begun → AllAlone rules t → IsAlone rules (s.last ++ later)
closed_alone rules s t later begun e l =
    let closed : AllByRecursion (IsAlone rules) (s.closed ++ (s.last ++ later) ∷ begun) =
    subst (AllByRecursion (IsAlone rules)) e l.0 in
    (split_all (IsAlone rules) s.closed ((s.last ++ later) ∷ begun) closed).1.0

keeps_on : (rules : Rules) (s t : Segments) → GoesOn s t → AllAlone rules s → AllAlone rules t → Keeps rules s t
keeps_on rules s t (Last later d m) k l = record {
  later = later;
  begun = [];
  segments = ap (λ c. c ++ t.last ∷ []) d ∙ ap (λ a. s.closed ++ a ∷ []) m;
  past = λ z e. comes_later rules s.last later z k.1 (subst (IsAlone rules) m l.1) e;
}
keeps_on rules s t (Closed later begun e) k l = record {
  later = later;
  begun = begun ++ t.last ∷ [];
  segments = ap (λ c. c ++ t.last ∷ []) e ∙ append_assoc s.closed ((s.last ++ later) ∷ begun) (t.last ∷ []);
  past = λ z f. comes_later rules s.last later z k.1 (closed_alone rules s t later begun e l) f;
}

pub keeps_segments : (rules : Rules) (h more : List Packet) →
    Keeps rules (segments rules h) (segments rules (h ++ more))
keeps_segments rules h more =
    keeps_on rules (segments rules h) (segments rules (h ++ more)) (goes_on_from rules h more) (all_alone rules h)
    (all_alone rules (h ++ more))

-- all accepted packets are those of all segments
pub accepted_all : (s : Segments) → accepted_of s ≡ flat_map (λ segment. segment) (all_of s)
accepted_all s =
    ap (λ xs. flat_map (λ segment. segment) s.closed ++ xs) (sym (append-nil s.last))
    ∙ sym (flat_map-append (λ segment. segment) s.closed (s.last ∷ []))

accepted_on : (rules : Rules) (s t : Segments) → Keeps rules s t → IsFront (accepted_of s) (accepted_of t)
accepted_on rules s t k =
    let front = flat_map (λ segment. segment) s.closed in
    let rest = flat_map (λ segment. segment) k.begun in (
      k.later ++ rest,
      accepted_all t
          ∙ ap (flat_map (λ segment. segment)) k.segments
          ∙ flat_map-append (λ segment. segment) s.closed ((s.last ++ k.later) ∷ k.begun)
          ∙ ap (λ xs. front ++ xs) (append_assoc s.last k.later rest)
          ∙ sym (append_assoc front s.last (k.later ++ rest)),
    )

pub keeps_accepted : (rules : Rules) (h more : List Packet) → IsFront (accepted rules h) (accepted rules (h ++ more))
keeps_accepted rules h more =
    accepted_on rules (segments rules h) (segments rules (h ++ more)) (keeps_segments rules h more)
