-- What one packet does to segments, and what holds of every segment by it.
use Rattle.std.proofs.Common.{◌≡◌, ℕ, true, false, cond, List, [], ◌∷◌, ◌++◌, refl, ap, ◌∙◌, Option, Some, None}
use Rattle.std.specs.Prelude.{fold}
use Rattle.spec_segments.specs.Segments.{Segments, Begins, Within, follows, judged, passed, with_packet}
use Rattle.spec_session.specs.Packets.{Packet}
use Rattle.spec_session.specs.Session as session
use Rattle.spec_session.specs.Session.{Rules, Accepted, Verdict, Accept, OtherSource, OffGrid, FarAhead, at_place}
use Rattle.spec_session.specs.Session.{begun, greatest_last, last_place, later, taken, within_reach}

-- the segments where a packet joins the last one, begins another, or leaves them as they are
abbrev pub with_one : Segments → Accepted → Segments
with_one s a = record { closed = s.closed; last = s.last ++ a ∷ []; stray = None }

abbrev pub with_segment : Segments → Packet → Segments
with_segment s x = record { closed = s.closed ++ s.last ∷ []; last = begun x ∷ []; stray = None }

abbrev pub with_stray : Segments → Option ℕ → Segments
with_stray s stray = record { closed = s.closed; last = s.last; stray = stray }

-- what a packet does
pub data Step (rules : Rules) (s : Segments) (x : Packet) (t : Segments) : Type 0 where
  Joins : (a : Accepted) → session.verdict rules s.last x ≡ Accept a → t ≡ with_one s a → Step rules s x t
  Opens : taken (session.verdict rules s.last x) ≡ [] → t ≡ with_segment s x → Step rules s x t
  Stays : (stray : Option ℕ) → taken (session.verdict rules s.last x) ≡ [] → t ≡ with_stray s stray → Step rules s x t

unplaced_step : (rules : Rules) (s : Segments) (x : Packet) (v : Verdict) → session.verdict rules s.last x ≡ v →
    taken v ≡ [] → passed s x (Within v) ≡ with_stray s (Some x.sequence) →
    Step rules s x (passed s x (cond (follows s.stray x.sequence) (Begins (begun x)) (Within v)))
unplaced_step rules s x v e none stays =
    elim (follows s.stray x.sequence) as (λ b. Step rules s x (passed s x (cond b (Begins (begun x)) (Within v)))) [
      | true ↦ Opens (ap taken e ∙ none) refl
      | false ↦ Stays (Some x.sequence) (ap taken e ∙ none) stays
    ]

step_by : (rules : Rules) (s : Segments) (x : Packet) (v : Verdict) → session.verdict rules s.last x ≡ v →
    Step rules s x (passed s x (judged s x v))
step_by rules s x (Accept a) e = Joins a e refl
step_by rules s x (OtherSource kept got) e = Stays s.stray (ap taken e) refl
step_by rules s x (OffGrid delta) e = unplaced_step rules s x (OffGrid delta) e refl refl
step_by rules s x (FarAhead h last) e = unplaced_step rules s x (FarAhead h last) e refl refl

pub step : (rules : Rules) (s : Segments) (x : Packet) → Step rules s x (with_packet rules s x)
step rules s x = step_by rules s x (session.verdict rules s.last x) refl

-- what each step keeps holds behind any packets
pub kept_by_steps : (rules : Rules) (P : Segments → Type 0) →
    ((s : Segments) (x : Packet) (t : Segments) → Step rules s x t → P s → P t) →
    (h : List Packet) (s : Segments) → P s → P (fold (with_packet rules) s h)
kept_by_steps rules P each [] s k = k
kept_by_steps rules P each (x ∷ h) s k =
    kept_by_steps rules P each h (with_packet rules s x) (each s x (with_packet rules s x) (step rules s x) k)
