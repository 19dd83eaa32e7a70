-- Where the packets of a segment stand.
use Rattle.std.proofs.Common.{◌≡◌, inl, inr, Bool, true, false, cond, List, [], ◌∷◌, ◌++◌, sym, refl, ap, ◌∙◌, subst}
use Rattle.std.proofs.Common.{arith, Option, Some, None, ℤ, pos, ◌+ℤ◌}
use Rattle.std.specs.Prelude.{⊤, ◌≤ℤ◌, int_le}
use Rattle.std.specs.List.{AllByRecursion}
use Rattle.std.proofs.lemmas.Int.{ints}
use Rattle.std.proofs.lemmas.List.{append-nil, append_assoc}
use Rattle.std.proofs.lemmas.Bool.Decides.{eqb_tells}
use Rattle.amr_bits.proofs.Lists.{all_append, all_more}
use Rattle.amr_frame.specs.Tables.{ticks}
use Rattle.segment_laws.proofs.Alone.{accepts_it}
use Rattle.segment_laws.proofs.Steps.{Step, Joins, Opens, Stays, kept_by_steps}
use Rattle.segment_laws.specs.Placed.{IsPlaceIn, IsSegment, StandsBehind}
use Rattle.session_laws.proofs.Places.{found, only}
use Rattle.spec_segments.specs.Segments.{Segments, all_of, at_start, segments}
use Rattle.spec_session.specs.Packets.{Packet}
use Rattle.spec_session.specs.Places.{apart, place_near}
use Rattle.spec_session.specs.Session.{Rules, Accepted, Verdict, Accept, OtherSource, OffGrid, FarAhead, at_place}
use Rattle.spec_session.specs.Session.{begun, greatest_last, last_place, later, verdict, within_reach}

-- what a verdict on a later packet tells of one that is accepted
record Told (rules : Rules) (start : Packet) (h : ℤ) (x : Packet) (a : Accepted) : Type 0 where
  source : x.ssrc ≡ start.ssrc
  before : a.before ≡ Some h
  place : place_near (ticks rules.codec) start.timestamp x.timestamp h ≡ Some a.place
  reach : last_place rules a ≤ℤ (h +ℤ pos rules.reach)

abbrev Tells : Rules → Packet → ℤ → Packet → Verdict → Type 0
Tells rules start h x (Accept a) = Told rules start h x a
Tells rules start h x (OtherSource kept got) = ⊤
Tells rules start h x (OffGrid delta) = ⊤
Tells rules start h x (FarAhead horizon last) = ⊤

within_tells : (rules : Rules) (start : Packet) (h : ℤ) (x : Packet) (u : ℤ) → x.ssrc ≡ start.ssrc →
    place_near (ticks rules.codec) start.timestamp x.timestamp h ≡ Some u →
    Tells rules start h x (within_reach rules h (record { packet = x; place = u; before = Some h }))
within_tells rules start h x u s p =
    let a : Accepted = record { packet = x; place = u; before = Some h } in
    let l = last_place rules a in
    let far = h +ℤ pos rules.reach in
    elim (int_le l far) as (λ b. int_le l far ≡ b → Tells rules start h x (cond b (Accept a) (FarAhead h l))) [
      | true ↦ λ e. record { source = s; before = refl; place = p; reach = grind (arith, ints) }
      | false ↦ λ e. tt
    ] refl

placed_tells : (rules : Rules) (start : Packet) (h : ℤ) (x : Packet) (delta : ℤ) (o : Option ℤ) → x.ssrc ≡ start.ssrc →
    place_near (ticks rules.codec) start.timestamp x.timestamp h ≡ o →
    Tells rules start h x (at_place rules h x delta o)
placed_tells rules start h x delta None s p = tt
placed_tells rules start h x delta (Some u) s p = within_tells rules start h x u s p

later_tells : (rules : Rules) (start : Packet) (h : ℤ) (x : Packet) → Tells rules start h x (later rules start h x)
later_tells rules start h x =
    let d = apart (ticks rules.codec) start.timestamp x.timestamp h in
    let o = place_near (ticks rules.codec) start.timestamp x.timestamp h in
    let P : Bool → Type 0 =
    λ b. Tells rules start h x (cond b (at_place rules h x d o) (OtherSource start.ssrc x.ssrc)) in
    elim (eqb_tells x.ssrc start.ssrc) [
      | inl t ↦ subst P (sym t.0) (placed_tells rules start h x d o t.1 refl)
      | inr t ↦ subst P (sym t.0) tt
    ]

told : (rules : Rules) (start : Packet) (h : ℤ) (x : Packet) (a : Accepted) → later rules start h x ≡ Accept a →
    Told rules start h x a
told rules start h x a e = subst (Tells rules start h x) e (later_tells rules start h x)

pub stands : (rules : Rules) (start : Accepted) (between : List Accepted) (a : Accepted) →
    verdict rules (start ∷ between) a.packet ≡ Accept a → StandsBehind rules start between a
stands rules start between a e =
    let t = told rules start.packet (greatest_last rules start between) a.packet a e in
    let h = greatest_last rules start between in
    let there = found rules.codec start.packet.timestamp a.packet.timestamp h a.place t.place in
    record {
      source = t.source;
      before = t.before;
      place = λ u. (
        λ p. (let f = only rules.codec start.packet.timestamp a.packet.timestamp h u p in let g = t.place in cc),
        λ s. subst (IsPlaceIn rules start between a.packet) (sym s) there,
      );
      reach = t.reach;
    }

-- each of these was accepted behind those before it
abbrev pub Follow : Rules → List Accepted → List Accepted → Type 0
Follow rules before [] = ⊤
Follow rules before (a ∷ after) = (verdict rules before a.packet ≡ Accept a) × Follow rules (before ++ a ∷ []) after

follow_more : (rules : Rules) (before xs : List Accepted) (a : Accepted) → Follow rules before xs →
    verdict rules (before ++ xs) a.packet ≡ Accept a → Follow rules before (xs ++ a ∷ [])
follow_more rules before [] a k e = (ap (λ b. verdict rules b a.packet) (sym (append-nil before)) ∙ e, tt)
follow_more rules before (x ∷ xs) a k e =
    let f = ap (λ b. verdict rules b a.packet) (append_assoc before (x ∷ []) xs) ∙ e in
    (k.0, follow_more rules (before ++ x ∷ []) xs a k.1 f)

follows_at : (rules : Rules) (before xs : List Accepted) (a : Accepted) (after : List Accepted) →
    Follow rules before (xs ++ a ∷ after) → verdict rules (before ++ xs) a.packet ≡ Accept a
follows_at rules before [] a after k = ap (λ b. verdict rules b a.packet) (append-nil before) ∙ k.0
follows_at rules before (x ∷ xs) a after k =
    ap (λ b. verdict rules b a.packet) (sym (append_assoc before (x ∷ []) xs))
    ∙ follows_at rules (before ++ x ∷ []) xs a after k.1

-- so it is in all segments
abbrev AllFollow : Rules → Segments → Type 0
AllFollow rules s = AllByRecursion (Follow rules []) s.closed × Follow rules [] s.last

joined : (rules : Rules) (before : List Accepted) (x : Packet) (a : Accepted) → verdict rules before x ≡ Accept a →
    Follow rules [] before → Follow rules [] (before ++ a ∷ [])
joined rules before x a e k =
    follow_more rules [] before a k (ap (verdict rules before) (accepts_it rules before x a e) ∙ e)

follow_step : (rules : Rules) (s : Segments) (x : Packet) (t : Segments) → Step rules s x t → AllFollow rules s →
    AllFollow rules t
follow_step rules s x t (Joins a v e) k = subst (AllFollow rules) (sym e) (k.0, joined rules s.last x a v k.1)
follow_step rules s x t (Opens n e) k =
    subst (AllFollow rules) (sym e) (all_append (Follow rules []) s.closed (s.last ∷ []) k.0 (k.1, tt), (refl, tt))
follow_step rules s x t (Stays o n e) k = subst (AllFollow rules) (sym e) k

-- what begins a segment is the packet with place 0
begins : (rules : Rules) (start : Accepted) (rest : List Accepted) → Follow rules [] (start ∷ rest) →
    start ≡ begun start.packet
begins rules start rest k = let e = k.0 in cc

is_segment : (rules : Rules) (segment : List Accepted) → Follow rules [] segment → IsSegment rules segment
is_segment rules segment k = record {
  start = λ start rest e. begins rules start rest (subst (Follow rules []) e k);
  behind = λ start a between after e. (
      stands rules start between a (follows_at rules [] (start ∷ between) a after (subst (Follow rules []) e k)));
}

pub segments_of : (rules : Rules) (h : List Packet) → AllByRecursion (IsSegment rules) (all_of (segments rules h))
segments_of rules h =
    let s = segments rules h in
    let k = kept_by_steps rules (AllFollow rules) (follow_step rules) h at_start (tt, tt) in
    all_more (Follow rules []) (IsSegment rules) (all_of s) (is_segment rules)
    (all_append (Follow rules []) s.closed (s.last ∷ []) k.0 (k.1, tt))
