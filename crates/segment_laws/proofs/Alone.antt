-- Each segment is a session of its own: all of its packets are accepted where they come alone.
use Rattle.std.proofs.Common.{◌≡◌, true, false, cond, List, [], ◌∷◌, ◌++◌, sym, refl, ap, ◌∙◌, subst, Option, Some}
use Rattle.std.proofs.Common.{None, ℤ, pos, ◌+ℤ◌, eqb}
use Rattle.std.specs.Prelude.{⊤, int_le}
use Rattle.std.specs.List.{AllByRecursion}
use Rattle.std.proofs.lemmas.List.{map-append}
use Rattle.std.proofs.lemmas.List.Sums.{fold-append}
use Rattle.amr_bits.proofs.Lists.{all_append}
use Rattle.amr_frame.specs.Tables.{ticks}
use Rattle.segment_laws.proofs.Steps.{Step, Joins, Opens, Stays, kept_by_steps}
use Rattle.segment_laws.specs.One.{IsAlone, packets}
use Rattle.spec_segments.specs.Segments.{Segments, all_of, at_start, segments}
use Rattle.spec_session.specs.Packets.{Packet}
use Rattle.spec_session.specs.Places.{apart, place_near}
use Rattle.spec_session.specs.Session as session
use Rattle.spec_session.specs.Session.{Rules, Accepted, Verdict, Accept, OtherSource, OffGrid, FarAhead, at_place}
use Rattle.spec_session.specs.Session.{greatest_last, last_place, later, taken, verdict, within_reach}

-- what a verdict accepts is the packet
abbrev Of : Packet → Verdict → Type 0
Of x (Accept a) = a.packet ≡ x
Of x (OtherSource kept got) = ⊤
Of x (OffGrid delta) = ⊤
Of x (FarAhead horizon last) = ⊤

within_of : (rules : Rules) (h : ℤ) (x : Packet) (a : Accepted) → a.packet ≡ x → Of x (within_reach rules h a)
within_of rules h x a e =
    elim (int_le (last_place rules a) (h +ℤ pos rules.reach)) as
    (λ b. Of x (cond b (Accept a) (FarAhead h (last_place rules a)))) [ true ↦ e | false ↦ tt ]

placed_of : (rules : Rules) (h : ℤ) (x : Packet) (delta : ℤ) (o : Option ℤ) → Of x (at_place rules h x delta o)
placed_of rules h x delta None = tt
placed_of rules h x delta (Some u) = within_of rules h x (record { packet = x; place = u; before = Some h }) refl

later_of : (rules : Rules) (start : Packet) (h : ℤ) (x : Packet) → Of x (later rules start h x)
later_of rules start h x =
    let d = apart (ticks rules.codec) start.timestamp x.timestamp h in
    let o = place_near (ticks rules.codec) start.timestamp x.timestamp h in
    elim (eqb x.ssrc start.ssrc) as (λ b. Of x (cond b (at_place rules h x d o) (OtherSource start.ssrc x.ssrc)))
    [ true ↦ placed_of rules h x d o | false ↦ tt ]

verdict_of : (rules : Rules) (before : List Accepted) (x : Packet) → Of x (verdict rules before x)
verdict_of rules [] x = refl
verdict_of rules (a ∷ rest) x = later_of rules a.packet (greatest_last rules a rest) x

pub accepts_it : (rules : Rules) (before : List Accepted) (x : Packet) (a : Accepted) →
    verdict rules before x ≡ Accept a → a.packet ≡ x
accepts_it rules before x a e = subst (Of x) e (verdict_of rules before x)

alone_more : (rules : Rules) (before : List Accepted) (x : Packet) (a : Accepted) → verdict rules before x ≡ Accept a →
    IsAlone rules before → IsAlone rules (before ++ a ∷ [])
alone_more rules before x a e alone =
    ap (session.accepted rules) (map-append (λ (b : Accepted). b.packet) before (a ∷ []))
    ∙ fold-append (session.with_packet rules) [] (packets before) (a.packet ∷ [])
    ∙ ap (λ acc. session.with_packet rules acc a.packet) alone
    ∙ ap (λ p. before ++ taken (verdict rules before p)) (accepts_it rules before x a e)
    ∙ ap (λ v. before ++ taken v) e

-- so it is of all segments
abbrev pub AllAlone : Rules → Segments → Type 0
AllAlone rules s = AllByRecursion (IsAlone rules) s.closed × IsAlone rules s.last

alone_step : (rules : Rules) (s : Segments) (x : Packet) (t : Segments) → Step rules s x t → AllAlone rules s →
    AllAlone rules t
alone_step rules s x t (Joins a v e) k = subst (AllAlone rules) (sym e) (k.0, alone_more rules s.last x a v k.1)
alone_step rules s x t (Opens n e) k =
    subst (AllAlone rules) (sym e) (all_append (IsAlone rules) s.closed (s.last ∷ []) k.0 (k.1, tt), refl)
alone_step rules s x t (Stays o n e) k = subst (AllAlone rules) (sym e) k

pub all_alone : (rules : Rules) (h : List Packet) → AllAlone rules (segments rules h)
all_alone rules h = kept_by_steps rules (AllAlone rules) (alone_step rules) h at_start (tt, refl)

pub alone_of : (rules : Rules) (h : List Packet) → AllByRecursion (IsAlone rules) (all_of (segments rules h))
alone_of rules h =
    let s = segments rules h in
    let k = all_alone rules h in
    all_append (IsAlone rules) s.closed (s.last ∷ []) k.0 (k.1, tt)
