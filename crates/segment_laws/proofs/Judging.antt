-- Each verdict comes exactly where its cause holds.
use Rattle.std.proofs.Common.{◌≡◌, inl, inr, Bool, true, false, cond, List, ◌∷◌}
use Rattle.std.proofs.Common.{sym, refl, ap, ◌∙◌, subst, arith, Option, Some, None, ℤ}
use Rattle.std.specs.Prelude.{◌<ℤ◌, int_le}
use Rattle.std.proofs.lemmas.Bool.Decides.{eqb_tells}
use Rattle.std.proofs.lemmas.Int.{ints}
use Rattle.amr_frame.specs.Tables.{ticks}
use Rattle.segment_laws.specs.Judged.{IsAccepted, IsOther, Makes, farthest, put}
use Rattle.segment_laws.specs.Placed.{IsPlaceIn}
use Rattle.session_laws.proofs.Places.{found, one_place, only}
use Rattle.spec_segments.specs.Segments.{Segments, Begins, Within, follows, judged, verdict}
use Rattle.spec_session.specs.Packets.{Packet}
use Rattle.spec_session.specs.Places.{apart, place_near}
use Rattle.spec_session.specs.Session as session
use Rattle.spec_session.specs.Session.{Rules, Accepted, Verdict, Accept, OtherSource, OffGrid, FarAhead}
use Rattle.spec_session.specs.Session.{at_place, begun, greatest_last, last_place, later, within_reach}

-- how far the timestamp is from that of the horizon
abbrev away : Rules → Accepted → List Accepted → Packet → ℤ
away rules start joined x = let h = greatest_last rules start joined in
    apart (ticks rules.codec) start.packet.timestamp x.timestamp h

-- what makes a verdict of the last segment
record Off (rules : Rules) (start : Accepted) (joined : List Accepted) (x : Packet) (d : ℤ) : Type 0 where
  source : x.ssrc ≡ start.packet.ssrc
  unplaced : (u : ℤ) → IsPlaceIn rules start joined x u → ⊥
  delta : d ≡ away rules start joined x

record Far (rules : Rules) (start : Accepted) (joined : List Accepted) (x : Packet) (h l : ℤ) : Type 0 where
  source : x.ssrc ≡ start.packet.ssrc
  at : ℤ
  place : IsPlaceIn rules start joined x at
  last : l ≡ last_place rules (put rules start joined x at)
  past : farthest rules start joined <ℤ l
  horizon : h ≡ greatest_last rules start joined

abbrev MakesWithin : Rules → Accepted → List Accepted → Packet → Verdict → Type 0
MakesWithin rules start joined x (Accept a) = IsAccepted rules start joined x a
MakesWithin rules start joined x (OtherSource k g) = IsOther start x k g
MakesWithin rules start joined x (OffGrid d) = Off rules start joined x d
MakesWithin rules start joined x (FarAhead h l) = Far rules start joined x h l

makes_reached : (rules : Rules) (start : Accepted) (joined : List Accepted) (x : Packet) (u : ℤ) →
    x.ssrc ≡ start.packet.ssrc → IsPlaceIn rules start joined x u →
    MakesWithin rules start joined x
    (within_reach rules (greatest_last rules start joined) (put rules start joined x u))
makes_reached rules start joined x u s p =
    let a = put rules start joined x u in
    let l = last_place rules a in
    let h = greatest_last rules start joined in
    let most = farthest rules start joined in
    elim (int_le l most) as
    (λ b. int_le l most ≡ b → MakesWithin rules start joined x (cond b (Accept a) (FarAhead h l))) [
      | true ↦ λ e. record { source = s; place = p; is = refl; reach = grind (arith, ints) }
      | false ↦ λ e. record { source = s; at = u; place = p; last = refl; past = grind (arith, ints); horizon = refl }
    ] refl

makes_placed : (rules : Rules) (start : Accepted) (joined : List Accepted) (x : Packet) (o : Option ℤ) →
    x.ssrc ≡ start.packet.ssrc →
    place_near (ticks rules.codec) start.packet.timestamp x.timestamp (greatest_last rules start joined) ≡ o →
    MakesWithin rules start joined x
    (at_place rules (greatest_last rules start joined) x (away rules start joined x) o)
makes_placed rules start joined x None s e =
    let h = greatest_last rules start joined in
    record {
      source = s;
      unplaced = λ u p. (let f = only rules.codec start.packet.timestamp x.timestamp h u p in absurd cc);
      delta = refl;
    }
makes_placed rules start joined x (Some u) s e =
    makes_reached rules start joined x u s
    (found rules.codec start.packet.timestamp x.timestamp (greatest_last rules start joined) u e)

makes_later : (rules : Rules) (start : Accepted) (joined : List Accepted) (x : Packet) →
    MakesWithin rules start joined x (later rules start.packet (greatest_last rules start joined) x)
makes_later rules start joined x =
    let h = greatest_last rules start joined in
    let d = apart (ticks rules.codec) start.packet.timestamp x.timestamp h in
    let o = place_near (ticks rules.codec) start.packet.timestamp x.timestamp h in
    let P : Bool → Type 0 =
    λ b. MakesWithin rules start joined x (cond b (at_place rules h x d o) (OtherSource start.packet.ssrc x.ssrc)) in
    elim (eqb_tells x.ssrc start.packet.ssrc) [
      | inl t ↦ subst P (sym t.0) (makes_placed rules start joined x o t.1 refl)
      | inr t ↦ subst P (sym t.0) (record { source = t.1; kept = refl; got = refl })
    ]

-- a place past the reach doesn't fit
pub far_unfit : (rules : Rules) (start : Accepted) (joined : List Accepted) (x : Packet) (u l : ℤ) (b : Accepted) →
    IsPlaceIn rules start joined x u → l ≡ last_place rules (put rules start joined x u) → farthest rules start joined
    <ℤ l →
    IsAccepted rules start joined x b → ⊥
far_unfit rules start joined x u l b p e past f =
    let h = greatest_last rules start joined in
    let same : b.place ≡ u = one_place rules.codec start.packet.timestamp x.timestamp h b.place u f.place p in
    let at : last_place rules b ≡ l = ap (last_place rules) (f.is ∙ ap (put rules start joined x) same) ∙ sym e in
    let reach = f.reach in
    absurd (omega (arith, ints))

makes_judged : (rules : Rules) (s : Segments) (start : Accepted) (joined : List Accepted) (x : Packet) (v : Verdict) →
    MakesWithin rules start joined x v → Makes rules s start joined x (judged s x v)
makes_judged rules s start joined x (Accept a) m = m
makes_judged rules s start joined x (OtherSource k g) m = m
makes_judged rules s start joined x (OffGrid d) m =
    let f = follows s.stray x.sequence in
    elim f as (λ b. f ≡ b → Makes rules s start joined x (cond b (Begins (begun x)) (Within (OffGrid d)))) [
      | true ↦ λ e. record { source = m.source; refused = λ b g. m.unplaced b.place g.place; next = e; is = refl }
      | false ↦ λ e. record { source = m.source; unplaced = m.unplaced; next = e; delta = m.delta }
    ] refl
makes_judged rules s start joined x (FarAhead h l) m =
    let f = follows s.stray x.sequence in
    let unfit = far_unfit rules start joined x m.at l in
    elim f as (λ b. f ≡ b → Makes rules s start joined x (cond b (Begins (begun x)) (Within (FarAhead h l)))) [
      | true ↦ λ e. record { source = m.source; refused = λ b g. unfit b m.place m.last m.past g; next = e; is = refl }
      | false ↦ λ e. record {
        source = m.source;
        at = m.at;
        place = m.place;
        last = m.last;
        past = m.past;
        next = e;
        horizon = m.horizon;
      }
    ] refl

pub makes : (rules : Rules) (s : Segments) (start : Accepted) (joined : List Accepted) (x : Packet) →
    s.last ≡ start ∷ joined → Makes rules s start joined x (verdict rules s x)
makes rules s start joined x e =
    makes_judged rules s start joined x (session.verdict rules s.last x)
    (subst (λ l. MakesWithin rules start joined x (session.verdict rules l x)) (sym e)
    (makes_later rules start joined x))
