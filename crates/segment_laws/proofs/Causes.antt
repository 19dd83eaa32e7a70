-- Causes of different verdicts don't hold together.
use Rattle.std.proofs.Common.{◌≡◌, List, ◌∷◌, sym, ap, ◌∙◌, subst, ℤ}
use Rattle.std.specs.Prelude.{◌↔◌}
use Rattle.segment_laws.proofs.Judging.{far_unfit, makes}
use Rattle.segment_laws.specs.Judged.{IsAccepted, IsFarAhead, Makes, put}
use Rattle.session_laws.proofs.Places.{one_place}
use Rattle.spec_segments.specs.Segments.{SegmentVerdict, Segments, Begins, Within, verdict}
use Rattle.spec_session.specs.Packets.{Packet}
use Rattle.spec_session.specs.Session.{Rules, Accepted, Accept, OtherSource, OffGrid, FarAhead}
use Rattle.spec_session.specs.Session.{greatest_last, last_place}

one_accepted : (rules : Rules) (start : Accepted) (joined : List Accepted) (x : Packet) (a b : Accepted) →
    IsAccepted rules start joined x a → IsAccepted rules start joined x b → a ≡ b
one_accepted rules start joined x a b f g =
    let h = greatest_last rules start joined in
    let same = one_place rules.codec start.packet.timestamp x.timestamp h a.place b.place f.place g.place in
    f.is ∙ ap (put rules start joined x) same ∙ sym g.is

one_far : (rules : Rules) (s : Segments) (start : Accepted) (joined : List Accepted) (x : Packet) (h l i m : ℤ) →
    IsFarAhead rules s start joined x h l → IsFarAhead rules s start joined x i m → FarAhead h l ≡ FarAhead i m
one_far rules s start joined x h l i m f g =
    let z = greatest_last rules start joined in
    let same = one_place rules.codec start.packet.timestamp x.timestamp z f.at g.at f.place g.place in
    let last : l ≡ m = f.last ∙ ap (λ u. last_place rules (put rules start joined x u)) same ∙ sym g.last in
    let at : h ≡ i = f.horizon ∙ sym g.horizon in
    cc

one_verdict : (rules : Rules) (s : Segments) (start : Accepted) (joined : List Accepted) (x : Packet) →
    (v w : SegmentVerdict) → Makes rules s start joined x v → Makes rules s start joined x w → v ≡ w
one_verdict rules s start joined x (Begins a) (Begins b) m n = ap Begins (m.is ∙ sym n.is)
one_verdict rules s start joined x (Begins a) (Within (Accept b)) m n = absurd (m.refused b n)
one_verdict rules s start joined x (Begins a) (Within (OtherSource k g)) m n = absurd (n.source m.source)
one_verdict rules s start joined x (Begins a) (Within (OffGrid d)) m n = absurd (let p = m.next in let q = n.next in cc)
one_verdict rules s start joined x (Begins a) (Within (FarAhead h l)) m n =
    absurd (let p = m.next in let q = n.next in cc)
one_verdict rules s start joined x (Within (Accept a)) (Begins b) m n = absurd (n.refused a m)
one_verdict rules s start joined x (Within (Accept a)) (Within (Accept b)) m n =
    ap (λ c. Within (Accept c)) (one_accepted rules start joined x a b m n)
one_verdict rules s start joined x (Within (Accept a)) (Within (OtherSource k g)) m n = absurd (n.source m.source)
one_verdict rules s start joined x (Within (Accept a)) (Within (OffGrid d)) m n = absurd (n.unplaced a.place m.place)
one_verdict rules s start joined x (Within (Accept a)) (Within (FarAhead h l)) m n =
    absurd (far_unfit rules start joined x n.at l a n.place n.last n.past m)
one_verdict rules s start joined x (Within (OtherSource k g)) (Begins b) m n = absurd (m.source n.source)
one_verdict rules s start joined x (Within (OtherSource k g)) (Within (Accept b)) m n = absurd (m.source n.source)
one_verdict rules s start joined x (Within (OtherSource k g)) (Within (OtherSource i j)) m n =
    let p = m.kept in let q = n.kept in let r = m.got in let t = n.got in cc
one_verdict rules s start joined x (Within (OtherSource k g)) (Within (OffGrid d)) m n = absurd (m.source n.source)
one_verdict rules s start joined x (Within (OtherSource k g)) (Within (FarAhead h l)) m n = absurd (m.source n.source)
one_verdict rules s start joined x (Within (OffGrid d)) (Begins b) m n = absurd (let p = m.next in let q = n.next in cc)
one_verdict rules s start joined x (Within (OffGrid d)) (Within (Accept b)) m n = absurd (m.unplaced b.place n.place)
one_verdict rules s start joined x (Within (OffGrid d)) (Within (OtherSource k g)) m n = absurd (n.source m.source)
one_verdict rules s start joined x (Within (OffGrid d)) (Within (OffGrid e)) m n =
    ap (λ c. Within (OffGrid c)) (m.delta ∙ sym n.delta)
one_verdict rules s start joined x (Within (OffGrid d)) (Within (FarAhead h l)) m n = absurd (m.unplaced n.at n.place)
one_verdict rules s start joined x (Within (FarAhead h l)) (Begins b) m n =
    absurd (let p = m.next in let q = n.next in cc)
one_verdict rules s start joined x (Within (FarAhead h l)) (Within (Accept b)) m n =
    absurd (far_unfit rules start joined x m.at l b m.place m.last m.past n)
one_verdict rules s start joined x (Within (FarAhead h l)) (Within (OtherSource k g)) m n = absurd (n.source m.source)
one_verdict rules s start joined x (Within (FarAhead h l)) (Within (OffGrid d)) m n = absurd (n.unplaced m.at m.place)
one_verdict rules s start joined x (Within (FarAhead h l)) (Within (FarAhead i m)) a b =
    ap Within (one_far rules s start joined x h l i m a b)

pub has_cause : (rules : Rules) (s : Segments) (start : Accepted) (joined : List Accepted) (x : Packet) →
    (w : SegmentVerdict) → s.last ≡ start ∷ joined → (verdict rules s x ≡ w) ↔ Makes rules s start joined x w
has_cause rules s start joined x w e = (
  λ v. subst (Makes rules s start joined x) v (makes rules s start joined x e),
  λ m. one_verdict rules s start joined x (verdict rules s x) w (makes rules s start joined x e) m,
)
