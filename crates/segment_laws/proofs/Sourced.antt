-- All segments are of one source, and packets of others change nothing.
use Rattle.std.proofs.Common.{◌≡◌, inl, inr, ℕ, Bool, true, false, cond, List, [], ◌∷◌, ◌++◌}
use Rattle.std.proofs.Common.{sym, refl, ap, ◌∙◌, subst, Option, Some, None, ℤ, pos, ◌+ℤ◌}
use Rattle.std.specs.Prelude.{◌≢◌, int_le, fold, flat_map}
use Rattle.std.specs.List.{AllByRecursion}
use Rattle.std.proofs.lemmas.Bool.Decides.{eqb_tells}
use Rattle.std.proofs.lemmas.List.{append_assoc}
use Rattle.std.proofs.lemmas.List.Sums.{fold-append}
use Rattle.amr_bits.proofs.Lists.{all_append}
use Rattle.amr_frame.specs.Tables.{ticks}
use Rattle.segment_laws.proofs.Alone.{accepts_it}
use Rattle.segment_laws.proofs.Keeping.{accepted_all}
use Rattle.spec_segments.specs.Segments.{Segments, Begins, Within, accepted, accepted_of, all_of, at_start}
use Rattle.spec_segments.specs.Segments.{follows, judged, passed, segments, with_packet}
use Rattle.spec_session.specs.Packets.{Packet}
use Rattle.spec_session.specs.Places.{apart, place_near}
use Rattle.spec_session.specs.Session as session
use Rattle.spec_session.specs.Session.{Rules, Accepted, Verdict, Accept, OtherSource, OffGrid, FarAhead}
use Rattle.spec_session.specs.Session.{at_place, begun, greatest_last, last_place, later, within_reach}

-- a packet that isn't refused as of another source is of this one
abbrev OfSource : Packet → Packet → Verdict → Type 0
OfSource start x (Accept a) = x.ssrc ≡ start.ssrc
OfSource start x (OtherSource kept got) = x.ssrc ≢ start.ssrc
OfSource start x (OffGrid delta) = x.ssrc ≡ start.ssrc
OfSource start x (FarAhead horizon last) = x.ssrc ≡ start.ssrc

within_source : (rules : Rules) (start : Packet) (h : ℤ) (x : Packet) (a : Accepted) → x.ssrc ≡ start.ssrc →
    OfSource start x (within_reach rules h a)
within_source rules start h x a e =
    let l = last_place rules a in
    elim (int_le l (h +ℤ pos rules.reach)) as (λ b. OfSource start x (cond b (Accept a) (FarAhead h l))) [
      | true ↦ e
      | false ↦ e
    ]

placed_source : (rules : Rules) (start : Packet) (h : ℤ) (x : Packet) (delta : ℤ) (o : Option ℤ) →
    x.ssrc ≡ start.ssrc → OfSource start x (at_place rules h x delta o)
placed_source rules start h x delta None e = e
placed_source rules start h x delta (Some u) e =
    within_source rules start h x (record { packet = x; place = u; before = Some h }) e

later_source : (rules : Rules) (start : Packet) (h : ℤ) (x : Packet) → OfSource start x (later rules start h x)
later_source rules start h x =
    let d = apart (ticks rules.codec) start.timestamp x.timestamp h in
    let o = place_near (ticks rules.codec) start.timestamp x.timestamp h in
    let P : Bool → Type 0 =
    λ b. OfSource start x (cond b (at_place rules h x d o) (OtherSource start.ssrc x.ssrc)) in
    elim (eqb_tells x.ssrc start.ssrc) [
      | inl t ↦ subst P (sym t.0) (placed_source rules start h x d o t.1)
      | inr t ↦ subst P (sym t.0) t.1
    ]

-- the accepted packets, and the one that began the last segment, are of a source
record IsOf (source : ℕ) (s : Segments) : Type 0 where
  start : Accepted
  rest : List Accepted
  last : s.last ≡ start ∷ rest
  head : start.packet.ssrc ≡ source
  all : AllByRecursion (λ (a : Accepted). a.packet.ssrc ≡ source) (accepted_of s)

of_verdict : (rules : Rules) (source : ℕ) (s : Segments) (x : Packet) (v : Verdict) (k : IsOf source s) →
    session.verdict rules s.last x ≡ v → OfSource k.start.packet x v
of_verdict rules source s x v k e =
    subst (OfSource k.start.packet x) (ap (λ l. session.verdict rules l x) (sym k.last) ∙ e)
    (later_source rules k.start.packet (greatest_last rules k.start k.rest) x)

of_joined : (source : ℕ) (s : Segments) (a : Accepted) → a.packet.ssrc ≡ source → IsOf source s →
    IsOf source (record { closed = s.closed; last = s.last ++ a ∷ []; stray = None })
of_joined source s a e k =
    let P = λ (b : Accepted). b.packet.ssrc ≡ source in
    let front = flat_map (λ segment. segment) s.closed in
    record {
      start = k.start;
      rest = k.rest ++ a ∷ [];
      last = ap (λ l. l ++ a ∷ []) k.last;
      head = k.head;
      all = subst (AllByRecursion P) (append_assoc front s.last (a ∷ []))
          (all_append P (accepted_of s) (a ∷ []) k.all (e, tt));
    }

of_opened : (source : ℕ) (s : Segments) (x : Packet) → x.ssrc ≡ source → IsOf source s →
    IsOf source (record { closed = s.closed ++ s.last ∷ []; last = begun x ∷ []; stray = None })
of_opened source s x e k =
    let P = λ (b : Accepted). b.packet.ssrc ≡ source in
    let all = flat_map (λ segment. segment) (all_of s) in
    record {
      start = begun x;
      rest = [];
      last = refl;
      head = e;
      all = all_append P all (begun x ∷ []) (subst (AllByRecursion P) (accepted_all s) k.all) (e, tt);
    }

of_strayed : (source : ℕ) (s : Segments) (stray : Option ℕ) → IsOf source s →
    IsOf source (record { closed = s.closed; last = s.last; stray = stray })
of_strayed source s stray k = record { start = k.start; rest = k.rest; last = k.last; head = k.head; all = k.all }

of_refused : (source : ℕ) (s : Segments) (x : Packet) (v : Verdict) → x.ssrc ≡ source → IsOf source s →
    IsOf source (passed s x (Within v)) →
    IsOf source (passed s x (cond (follows s.stray x.sequence) (Begins (begun x)) (Within v)))
of_refused source s x v e k j =
    elim (follows s.stray x.sequence) as (λ b. IsOf source (passed s x (cond b (Begins (begun x)) (Within v)))) [
      | true ↦ of_opened source s x e k
      | false ↦ j
    ]

of_step : (rules : Rules) (source : ℕ) (s : Segments) (x : Packet) (v : Verdict) →
    session.verdict rules s.last x ≡ v → IsOf source s → IsOf source (passed s x (judged s x v))
of_step rules source s x (Accept a) e k =
    let of = of_verdict rules source s x (Accept a) k e in
    let it = accepts_it rules s.last x a e in
    of_joined source s a (ap (λ (p : Packet). p.ssrc) it ∙ of ∙ k.head) k
of_step rules source s x (OtherSource kept got) e k = k
of_step rules source s x (OffGrid delta) e k =
    of_refused source s x (OffGrid delta) (of_verdict rules source s x (OffGrid delta) k e ∙ k.head) k
    (of_strayed source s (Some x.sequence) k)
of_step rules source s x (FarAhead h l) e k =
    of_refused source s x (FarAhead h l) (of_verdict rules source s x (FarAhead h l) k e ∙ k.head) k
    (of_strayed source s (Some x.sequence) k)

of_all : (rules : Rules) (source : ℕ) (h : List Packet) (s : Segments) → IsOf source s →
    IsOf source (fold (with_packet rules) s h)
of_all rules source [] s k = k
of_all rules source (x ∷ h) s k =
    of_all rules source h (with_packet rules s x)
    (of_step rules source s x (session.verdict rules s.last x) refl k)

of_first : (rules : Rules) (x : Packet) (h : List Packet) → IsOf x.ssrc (segments rules (x ∷ h))
of_first rules x h =
    of_all rules x.ssrc h (with_packet rules at_start x)
    (record { start = begun x; rest = []; last = refl; head = refl; all = (refl, tt) })

-- all accepted packets are of the source of the first
pub one_source : (rules : Rules) (x : Packet) (h : List Packet) →
    AllByRecursion (λ (a : Accepted). a.packet.ssrc ≡ x.ssrc) (accepted rules (x ∷ h))
one_source rules x h = (of_first rules x h).all

-- a packet of another source leaves all as it is
other_by : (rules : Rules) (source : ℕ) (s : Segments) (y : Packet) (v : Verdict) → session.verdict rules s.last y ≡ v →
    y.ssrc ≢ source → IsOf source s → passed s y (judged s y v) ≡ s
other_by rules source s y (Accept a) e n k = absurd (n (of_verdict rules source s y (Accept a) k e ∙ k.head))
other_by rules source s y (OtherSource kept got) e n k = refl
other_by rules source s y (OffGrid delta) e n k = absurd (n (of_verdict rules source s y (OffGrid delta) k e ∙ k.head))
other_by rules source s y (FarAhead h l) e n k = absurd (n (of_verdict rules source s y (FarAhead h l) k e ∙ k.head))

pub others_change_nothing : (rules : Rules) (x y : Packet) (h : List Packet) → y.ssrc ≢ x.ssrc →
    segments rules ((x ∷ h) ++ y ∷ []) ≡ segments rules (x ∷ h)
others_change_nothing rules x y h n =
    let s = segments rules (x ∷ h) in
    fold-append (with_packet rules) at_start (x ∷ h) (y ∷ [])
    ∙ other_by rules x.ssrc s y (session.verdict rules s.last y) refl n (of_first rules x h)
