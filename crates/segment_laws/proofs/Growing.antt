-- How segments go on when packets come.
use Rattle.std.proofs.Common.{◌≡◌, List, [], ◌∷◌, ◌++◌, sym, refl, ap, ◌∙◌, subst}
use Rattle.std.specs.Prelude.{fold}
use Rattle.std.proofs.lemmas.List.{append-nil, append_assoc}
use Rattle.std.proofs.lemmas.List.Sums.{fold-append}
use Rattle.segment_laws.proofs.Steps.{Step, Joins, Opens, Stays, step}
use Rattle.spec_segments.specs.Segments.{Segments, at_start, segments, with_packet}
use Rattle.spec_session.specs.Packets.{Packet}
use Rattle.spec_session.specs.Session.{Rules, Accepted}

-- the last segment goes on, and is the last one still or is closed with others behind it
pub data GoesOn (s t : Segments) : Type 0 where
  Last : (later : List Accepted) → t.closed ≡ s.closed → t.last ≡ s.last ++ later → GoesOn s t
  Closed : (later : List Accepted) (begun : List (List Accepted)) → t.closed ≡ s.closed ++ (s.last ++ later) ∷ begun →
      GoesOn s t

one_more : (xs ys later : List Accepted) (a : Accepted) → ys ≡ xs ++ a ∷ [] → ys ++ later ≡ xs ++ a ∷ later
one_more xs ys later a e = ap (λ zs. zs ++ later) e ∙ append_assoc xs (a ∷ []) later

joins_on : (s t u : Segments) (a : Accepted) → t.closed ≡ s.closed → t.last ≡ s.last ++ a ∷ [] → GoesOn t u → GoesOn s u
joins_on s t u a c l (Last later d m) = Last (a ∷ later) (d ∙ c) (m ∙ one_more s.last t.last later a l)
joins_on s t u a c l (Closed later more d) =
    Closed (a ∷ later) more (
    d
    ∙ ap (λ xs. xs ++ (t.last ++ later) ∷ more) c
    ∙ ap (λ xs. s.closed ++ xs ∷ more) (one_more s.last t.last later a l)
    )

opens_on : (s t u : Segments) → t.closed ≡ s.closed ++ s.last ∷ [] → GoesOn t u → GoesOn s u
opens_on s t u c (Last later d m) = Closed [] [] (d ∙ c ∙ ap (λ xs. s.closed ++ xs ∷ []) (sym (append-nil s.last)))
opens_on s t u c (Closed later more d) =
    Closed [] ((t.last ++ later) ∷ more) (
    d
    ∙ ap (λ xs. xs ++ (t.last ++ later) ∷ more) c
    ∙ append_assoc s.closed (s.last ∷ []) ((t.last ++ later) ∷ more)
    ∙ ap (λ xs. s.closed ++ xs ∷ (t.last ++ later) ∷ more) (sym (append-nil s.last))
    )

stays_on : (s t u : Segments) → t.closed ≡ s.closed → t.last ≡ s.last → GoesOn t u → GoesOn s u
stays_on s t u c l (Last later d m) = Last later (d ∙ c) (m ∙ ap (λ xs. xs ++ later) l)
stays_on s t u c l (Closed later more d) =
    Closed later more (d ∙ ap (λ xs. xs ++ (t.last ++ later) ∷ more) c ∙ ap (λ xs. s.closed ++ (xs ++ later) ∷ more) l)

steps_on : (rules : Rules) (s : Segments) (x : Packet) (t u : Segments) → Step rules s x t → GoesOn t u → GoesOn s u
steps_on rules s x t u (Joins a v e) g =
    joins_on s t u a (ap (λ (r : Segments). r.closed) e) (ap (λ (r : Segments). r.last) e) g
steps_on rules s x t u (Opens n e) g = opens_on s t u (ap (λ (r : Segments). r.closed) e) g
steps_on rules s x t u (Stays o n e) g =
    stays_on s t u (ap (λ (r : Segments). r.closed) e) (ap (λ (r : Segments). r.last) e) g

goes_on : (rules : Rules) (h : List Packet) (s : Segments) → GoesOn s (fold (with_packet rules) s h)
goes_on rules [] s = Last [] refl (sym (append-nil s.last))
goes_on rules (x ∷ h) s =
    let t = with_packet rules s x in
    steps_on rules s x t (fold (with_packet rules) t h) (step rules s x) (goes_on rules h t)

pub goes_on_from : (rules : Rules) (h more : List Packet) → GoesOn (segments rules h) (segments rules (h ++ more))
goes_on_from rules h more =
    subst (GoesOn (segments rules h)) (sym (fold-append (with_packet rules) at_start h more))
    (goes_on rules more (segments rules h))
