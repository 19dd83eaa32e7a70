-- The places of two lists of the same packets differ by one constant.
use Rattle.std.proofs.Common.{◌≡◌, ℕ, ◌^◌, List, [], ◌∷◌, ◌++◌, sym, refl, ap, ◌∙◌, subst, arith}
use Rattle.std.proofs.Common.{ℤ, pos, ◌+ℤ◌, ◌-ℤ◌, ◌*ℤ◌, inl}
use Rattle.std.specs.Prelude.{◌<ℤ◌}
use Rattle.std.specs.List.{AllByRecursion}
use Rattle.std.proofs.lemmas.Int.{ints}
use Rattle.std.proofs.lemmas.List.{append_assoc}
use Rattle.amr_frame.specs.declared.codec.Codec.{Codec}
use Rattle.amr_frame.specs.declared.codec.Codec.TheVariants.{Amr, AmrWb}
use Rattle.amr_frame.specs.Tables.{ticks}
use Rattle.order_laws.specs.Order.{AllAccepted, AreMovedBy, HaveTheSame, IsNarrow, StandsIn}
use Rattle.order_laws.proofs.Members.{all_in, from_map, in_map}
use Rattle.order_laws.proofs.Standing.{are_the_packets}
use Rattle.order_laws.proofs.Unbroken.{one_of_all}
use Rattle.segment_laws.proofs.Placing.{segments_of}
use Rattle.segment_laws.proofs.Single.{last_is, same_accepted}
use Rattle.segment_laws.specs.One.{packets}
use Rattle.segment_laws.specs.Placed.{IsSegment}
use Rattle.spec_segments.specs.Segments.{accepted, segments}
use Rattle.spec_session.specs.Packets.{Packet}
use Rattle.spec_session.specs.Session.{Rules, Accepted, begun}

-- a packet is as many frame times after the origin as its place says, but for whole turns
record IsOnGrid (codec : Codec) (origin : ℕ) (a : Accepted) : Type 0 where
  turns : ℤ
  grid : pos a.packet.timestamp ≡ (pos origin +ℤ pos (ticks codec) *ℤ a.place) +ℤ turns *ℤ pos (2 ^ 32)

at_origin : (codec : Codec) (origin : ℕ) →
    pos origin ≡ (pos origin +ℤ pos (ticks codec) *ℤ pos 0) +ℤ pos 0 *ℤ pos (2 ^ 32)
at_origin Amr origin = omega (arith, ints)
at_origin AmrWb origin = omega (arith, ints)

start_grid : (codec : Codec) (a : Accepted) → a ≡ begun a.packet → IsOnGrid codec a.packet.timestamp a
start_grid codec a e =
    subst (IsOnGrid codec a.packet.timestamp) (sym e)
    (record { turns = pos 0; grid = at_origin codec a.packet.timestamp })

grids : (rules : Rules) (segment : List Accepted) (start : Accepted) → IsSegment rules segment →
    (between after : List Accepted) → segment ≡ start ∷ between ++ after →
    AllByRecursion (IsOnGrid rules.codec start.packet.timestamp) after
grids rules segment start k between [] e = tt
grids rules segment start k between (a ∷ after) e =
    let p = ((k.behind start a between after e).place a.place).1 refl in (
      record { turns = p.turns; grid = p.grid },
      grids rules segment start k (between ++ a ∷ []) after
          (e ∙ ap (λ xs. start ∷ xs) (sym (append_assoc between (a ∷ []) after))),
    )

-- all of a segment are on one grid
abbrev HasGrid : Rules → List Accepted → Type 0
HasGrid rules acc = (origin : ℕ) × AllByRecursion (IsOnGrid rules.codec origin) acc

grid_of : (rules : Rules) (segment : List Accepted) → IsSegment rules segment → HasGrid rules segment
grid_of rules [] k = (0, tt)
grid_of rules (a ∷ rest) k =
    (a.packet.timestamp, (start_grid rules.codec a (k.start a rest refl), grids rules (a ∷ rest) a k [] rest refl))

last_segment : (rules : Rules) (h : List Packet) → AllAccepted rules h → IsSegment rules (segments rules h).last
last_segment rules h k =
    (subst (AllByRecursion (IsSegment rules)) (ap (λ c. c ++ (segments rules h).last ∷ []) (one_of_all rules h k.all)) (segments_of rules h)).0

grid_in : (rules : Rules) (h : List Packet) → AllAccepted rules h → HasGrid rules (accepted rules h)
grid_in rules h k =
    subst (HasGrid rules) (last_is rules h (one_of_all rules h k.all) ∙ sym (same_accepted rules h (one_of_all rules h k.all)))
    (grid_of rules (segments rules h).last (last_segment rules h k))

-- two timestamps are as far apart as their places on either grid are, which is less than half a turn
moved : (codec : Codec) (o o' s t : ℕ) (p q p' q' v w v' w' : ℤ) →
    pos s ≡ (pos o +ℤ pos (ticks codec) *ℤ p) +ℤ v *ℤ pos (2 ^ 32) →
    pos t ≡ (pos o +ℤ pos (ticks codec) *ℤ q) +ℤ w *ℤ pos (2 ^ 32) →
    pos s ≡ (pos o' +ℤ pos (ticks codec) *ℤ p') +ℤ v' *ℤ pos (2 ^ 32) →
    pos t ≡ (pos o' +ℤ pos (ticks codec) *ℤ q') +ℤ w' *ℤ pos (2 ^ 32) →
    (pos (ticks codec) *ℤ (p -ℤ q)) <ℤ pos (2 ^ 31) → (pos (ticks codec) *ℤ (q -ℤ p)) <ℤ pos (2 ^ 31) →
    (pos (ticks codec) *ℤ (p' -ℤ q')) <ℤ pos (2 ^ 31) → (pos (ticks codec) *ℤ (q' -ℤ p')) <ℤ pos (2 ^ 31) →
    q +ℤ (p' -ℤ p) ≡ q'
moved Amr o o' s t p q p' q' v w v' w' a b c d e f g h = omega (arith, ints)
moved AmrWb o o' s t p q p' q' v w v' w' a b c d e f g h = omega (arith, ints)

-- a packet of both, and where it stands in each
moved_from : (rules : Rules) (acc acc' : List Accepted) (a a' : Accepted) → HasGrid rules acc → HasGrid rules acc' →
    IsNarrow rules acc → IsNarrow rules acc' → StandsIn a acc → StandsIn a' acc' → a.packet ≡ a'.packet →
    AreMovedBy (a'.place -ℤ a.place) acc acc'
moved_from rules acc acc' a a' g g' n n' s s' e b b' t t' f =
    let P = IsOnGrid rules.codec in
    let x = all_in (P g.0) acc a g.1 s in
    let y = all_in (P g.0) acc b g.1 t in
    let x' = all_in (P g'.0) acc' a' g'.1 s' in
    let y' = all_in (P g'.0) acc' b' g'.1 t' in
    moved rules.codec g.0 g'.0 a.packet.timestamp b.packet.timestamp a.place b.place a'.place b'.place
    x.turns y.turns x'.turns y'.turns x.grid y.grid
    (ap (λ (p : Packet). pos p.timestamp) e ∙ x'.grid) (ap (λ (p : Packet). pos p.timestamp) f ∙ y'.grid)
    (n a b s t) (n b a t s) (n' a' b' s' t') (n' b' a' t' s')

-- for each accepted packet of the first list there is one of the second with the same packet
pub other : (acc acc' : List Accepted) (h k : List Packet) → packets acc ≡ h → packets acc' ≡ k →
    AllByRecursion (λ x. StandsIn x k) h → (a : Accepted) → StandsIn a acc →
    (a' : Accepted) × StandsIn a' acc' × (a'.packet ≡ a.packet)
other acc acc' h k e f all a s =
    let there : StandsIn a.packet h = subst (StandsIn a.packet) e (in_map (λ (b : Accepted). b.packet) acc a s) in
    from_map (λ (b : Accepted). b.packet) acc' a.packet
    (subst (StandsIn a.packet) (sym f) (all_in (λ x. StandsIn x k) h a.packet all there))

moved_all : (rules : Rules) (acc acc' : List Accepted) → HasGrid rules acc → HasGrid rules acc' →
    IsNarrow rules acc → IsNarrow rules acc' →
    ((a : Accepted) → StandsIn a acc → (a' : Accepted) × StandsIn a' acc' × (a'.packet ≡ a.packet)) →
    (d : ℤ) × AreMovedBy d acc acc'
moved_all rules [] acc' g g' n n' f = (pos 0, λ b b' t t' q. absurd t)
moved_all rules (a ∷ acc) acc' g g' n n' f =
    let o = f a (inl refl) in
    (o.0.place -ℤ a.place, moved_from rules (a ∷ acc) acc' a o.0 g g' n n' (inl refl) o.1 (sym o.2))

pub moved_alike : (rules : Rules) (h k : List Packet) → HaveTheSame h k → AllAccepted rules h → AllAccepted rules k →
    (d : ℤ) × AreMovedBy d (accepted rules h) (accepted rules k)
moved_alike rules h k same c c' =
    moved_all rules (accepted rules h) (accepted rules k) (grid_in rules h c) (grid_in rules k c') c.narrow c'.narrow
    (other (accepted rules h) (accepted rules k) h k (are_the_packets rules h c) (are_the_packets rules k c') same.there)
