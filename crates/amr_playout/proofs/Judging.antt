-- What the session's rules say of a packet, by what a receiver keeps of the session.
use Rattle.std.proofs.Common.{◌≡◌, ℕ, ◌+◌, ◌-◌, ◌≤◌, ◌<◌, List, [], ◌∷◌, true, false, cond, nat_eq, Option, Some, None, Result, Ok, Err, IfOk, refl, sym, ap, ◌∙◌, subst, arith, ℤ, pos, ◌+ℤ◌}
use Rattle.std.specs.Prelude.{◌≤ℤ◌, ◌<ℤ◌, int_le}
use Rattle.std.proofs.lemmas.Bool.Decides.{nat_tests}
use Rattle.std.proofs.lemmas.Int.{ints}
use Rattle.amr_frame.specs.Frames.{Frame}
use Rattle.amr_frame.specs.Tables.{ticks}
use Rattle.amr_playout.proofs.Taking.{spot_at}
use Rattle.amr_playout.specs.Standing.{Holds, last_from, placed}
use Rattle.amr_playout.specs.Verdicts.{IsWithinReach}
use Rattle.amr_playout.specs.Window.{at}
use Rattle.amr_playout.specs.declared.answers.Refusal.{Refusal}
use Rattle.amr_playout.specs.declared.session.Begun.{Begun}
use Rattle.spec_payload.specs.Values.{Value}
use Rattle.spec_session.specs.Packets.{Packet}
use Rattle.spec_session.specs.Places.{apart, place_near}
use Rattle.spec_session.specs.Session.{Accept, Accepted, FarAhead, OffGrid, OtherSource, Rules, Verdict, at_place, blocks_in, last_place, verdict}

-- how far a packet's timestamp is from the horizon's, and its place
abbrev delta_of : Rules → Begun → Packet → ℤ
delta_of rules s x = apart (ticks rules.codec) s.origin x.timestamp (at s.horizon)

abbrev place_by : Rules → Begun → Packet → Option ℤ
place_by rules s x = place_near (ticks rules.codec) s.origin x.timestamp (at s.horizon)

-- the verdict, by what is kept
abbrev judged : Rules → Begun → Packet → Verdict
judged rules s x =
    cond (nat_eq x.ssrc s.source) (at_place rules (at s.horizon) x (delta_of rules s x) (place_by rules s x))
    (OtherSource s.source x.ssrc)

verdict_is : (rules : Rules) (s : Begun) (x : Packet) (cells : List (Option Frame)) (acc : List Accepted)
    → Holds rules (Some s) cells acc → verdict rules acc x ≡ judged rules s x
verdict_is rules s x cells [] holds = absurd holds
verdict_is rules s x cells (a ∷ rest) holds = λ i.
    cond (nat_eq x.ssrc (sym holds.source i))
    (at_place rules (sym holds.horizon i) x
    (apart (ticks rules.codec) (sym holds.origin i) x.timestamp (sym holds.horizon i))
    (place_near (ticks rules.codec) (sym holds.origin i) x.timestamp (sym holds.horizon i)))
    (OtherSource (sym holds.source i) x.ssrc)

le_is : (a b : ℤ) → a ≤ℤ b → int_le a b ≡ true
le_is a b h = grind (arith, ints)

gt_is : (a b : ℤ) → b <ℤ a → int_le a b ≡ false
gt_is a b h = grind (arith, ints)

module _ (rules : Rules) (s : Begun) (x : Packet) (cells : List (Option Frame)) (acc : List Accepted)
    (holds : Holds rules (Some s) cells acc) where
  pub other_source : nat_eq x.ssrc s.source ≡ false → verdict rules acc x ≡ OtherSource s.source x.ssrc
  other_source e =
      verdict_is rules s x cells acc holds
      ∙ ap (λ b. cond b (at_place rules (at s.horizon) x (delta_of rules s x) (place_by rules s x))
      (OtherSource s.source x.ssrc)) e

  same_source : nat_eq x.ssrc s.source ≡ true
      → verdict rules acc x ≡ at_place rules (at s.horizon) x (delta_of rules s x) (place_by rules s x)
  same_source e =
      verdict_is rules s x cells acc holds
      ∙ ap (λ b. cond b (at_place rules (at s.horizon) x (delta_of rules s x) (place_by rules s x))
      (OtherSource s.source x.ssrc)) e

  pub off_grid : (delta : ℤ) → nat_eq x.ssrc s.source ≡ true → place_by rules s x ≡ None → delta_of rules s x ≡ delta
      → verdict rules acc x ≡ OffGrid delta
  off_grid delta e none d =
      same_source e ∙ ap (at_place rules (at s.horizon) x (delta_of rules s x)) none ∙ ap OffGrid d

  at_seat : (place : ℕ) → nat_eq x.ssrc s.source ≡ true → place_by rules s x ≡ Some (at place)
      → verdict rules acc x ≡ cond
      (int_le (last_place rules (placed (Some s) x place)) (at s.horizon +ℤ pos rules.reach))
      (Accept (placed (Some s) x place)) (FarAhead (at s.horizon) (last_place rules (placed (Some s) x place)))
  at_seat place e some = same_source e ∙ ap (at_place rules (at s.horizon) x (delta_of rules s x)) some

  -- the last place, as the receiver counts it
  last_at : (place last : ℕ) → last ≡ last_from rules x.value place
      → at last ≡ last_place rules (placed (Some s) x place)
  last_at place last is =
      ap at is ∙ spot_at (placed (Some s) x place) x.value place (blocks_in rules x.value - 1) refl refl

  pub seated : (place last : ℕ) → nat_eq x.ssrc s.source ≡ true → place_by rules s x ≡ Some (at place)
      → last ≡ last_from rules x.value place → last ≤ s.horizon + rules.reach
      → verdict rules acc x ≡ Accept (placed (Some s) x place)
  seated place last e some is near =
      let l = last_at place last is in
      let b : int_le (last_place rules (placed (Some s) x place)) (at s.horizon +ℤ pos rules.reach) ≡ true =
      le_is _ _ (subst (λ z. z ≤ℤ (at s.horizon +ℤ pos rules.reach)) l (omega (arith, ints))) in
      at_seat place e some
      ∙ ap (λ t. cond t (Accept (placed (Some s) x place))
      (FarAhead (at s.horizon) (last_place rules (placed (Some s) x place)))) b

  pub far_ahead : (place last : ℕ) (horizon' last' : ℤ) → nat_eq x.ssrc s.source ≡ true
      → place_by rules s x ≡ Some (at place)
      → last ≡ last_from rules x.value place → s.horizon + rules.reach < last → horizon' ≡ at s.horizon
      → last' ≡ at last
      → verdict rules acc x ≡ FarAhead horizon' last'
  far_ahead place last horizon' last' e some is far h k =
      let l = last_at place last is in
      let b : int_le (last_place rules (placed (Some s) x place)) (at s.horizon +ℤ pos rules.reach) ≡ false =
      gt_is _ _ (subst (λ z. (at s.horizon +ℤ pos rules.reach) <ℤ z) l (omega (arith, ints))) in
      at_seat place e some
      ∙ ap (λ t. cond t (Accept (placed (Some s) x place))
      (FarAhead (at s.horizon) (last_place rules (placed (Some s) x place)))) b
      ∙ ap (λ z. FarAhead z (last_place rules (placed (Some s) x place))) (sym h)
      ∙ ap (FarAhead horizon') (sym (k ∙ l))

-- whether two sources are the same, by a number that is one of them
pub same_number : (got a b : ℕ) → got ≡ a → got ≡ b → nat_eq a b ≡ true
same_number got a b e f = grind (arith, nat_tests)

-- the reach, of a session that may have begun
pub reach_of : (rules : Rules) (before : Option Begun) (s : Begun) (v : Value) (r : Result ℕ Refusal) → before ≡ Some s
    → IfOk r (λ u. last_from rules v u ≤ s.horizon + rules.reach) → IfOk r (IsWithinReach rules before v)
reach_of rules before s v (Ok u) is h = λ t e.
    let both : Some s ≡ Some t = sym is ∙ e in
    subst (λ (z : Begun). last_from rules v u ≤ z.horizon + rules.reach) (let f : s ≡ t = cc in f) h
reach_of rules before s v (Err why) is h = tt
