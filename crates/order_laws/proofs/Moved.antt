-- Copies that are the same but for one constant and for repeats are released as the same blocks.
use Rattle.std.proofs.Common.{◌≡◌, ℕ, Bool, ◌&&◌, true, false, List, [], ◌∷◌, map, sym, refl, ap, ◌∙◌, subst}
use Rattle.std.proofs.Common.{arith, ℤ, pos, ◌+ℤ◌, ◌-ℤ◌, inl, inr, nat_eq}
use Rattle.std.specs.Prelude.{◌⊎◌, ◌≤ℤ◌, filter}
use Rattle.std.specs.List.{range_with_len, AllByRecursion}
use Rattle.std.specs.Int.{int_max, int_min}
use Rattle.std.proofs.lemmas.Int.{ints, clamps, by_lt_z}
use Rattle.amr_frame.specs.declared.codec.Codec.{Codec}
use Rattle.amr_frame.specs.Frames.{Frame}
use Rattle.amr_merge.specs.Members as frames
use Rattle.amr_merge.proofs.Ranks.{same_best}
use Rattle.order_laws.specs.Order.{StandsIn}
use Rattle.order_laws.proofs.Copies.{Moves, later_by}
use Rattle.order_laws.proofs.Members.{all_from, from_filter, from_map, in_filter, in_map}
use Rattle.session_laws.proofs.Prefix.{map_same}
use Rattle.spec_session.specs.Copies.{Copy}
use Rattle.spec_session.specs.Quality.{stored}
use Rattle.spec_session.specs.Release.{best_at, block_at, blocks_between, is_at, least, greatest, places_between, one_more, released_of, same_place}
use Rattle.spec_session.specs.Session.{Rules}

-- a frame that stands in a list, as the laws of quality say it
as_frame : (f : Frame) (xs : List Frame) → StandsIn f xs → frames.StandsIn f xs
as_frame f [] s = s
as_frame f (x ∷ xs) (inl e) = inl e
as_frame f (x ∷ xs) (inr s) = inr (as_frame f xs s)

both : (a b : Bool) → (a && b) ≡ true → (a ≡ true) × (b ≡ true)
both true b e = (refl, e)
both false b e = absurd cc

at_place : (a b : ℤ) → same_place a b ≡ true → a ≡ b
at_place a b e = grind (arith, ints)

its_place : (a : ℤ) → same_place a a ≡ true
its_place a = grind (arith, ints)

-- a copy of a place is one of the place as much later
is_moved : (p d : ℤ) (n : ℕ) (c : Copy) → is_at p n c ≡ true → is_at (p +ℤ d) n (later_by d c) ≡ true
is_moved p d n c e =
    let b = both (same_place c.place p) (nat_eq c.channel n) e in
    let q : c.place ≡ p = at_place c.place p b.0 in
    ap (λ x. same_place (x +ℤ d) (p +ℤ d) && nat_eq c.channel n) q
    ∙ ap (λ x. x && nat_eq c.channel n) (its_place (p +ℤ d))
    ∙ b.1

-- the frames of a place stand among those of the place as much later
frames_move : (cs ds : List Copy) (p d : ℤ) (n : ℕ) → Moves d cs ds →
    AllByRecursion (λ (f : Frame). frames.StandsIn f (map (λ (c : Copy). c.frame) (filter (is_at (p +ℤ d) n) ds)))
    (map (λ (c : Copy). c.frame) (filter (is_at p n) cs))
frames_move cs ds p d n m =
    let frame = λ (c : Copy). c.frame in
    let there = filter (is_at (p +ℤ d) n) ds in
    all_from (λ (f : Frame). frames.StandsIn f (map frame there)) (map frame (filter (is_at p n) cs))
    (λ f s.
    let i = from_map frame (filter (is_at p n) cs) f s in
    let k = from_filter (is_at p n) cs i.0 i.1 in
    let stands = in_filter (is_at (p +ℤ d) n) ds (later_by d i.0) (m i.0 k.0) (is_moved p d n i.0 k.1) in
    as_frame f (map frame there) (subst (λ x. StandsIn x (map frame there)) i.2 (in_map frame there (later_by d i.0) stands)))

there_and_back : (p d e : ℤ) → d +ℤ e ≡ pos 0 → (p +ℤ d) +ℤ e ≡ p
there_and_back p d e h = omega (arith, ints)

best_moves : (codec : Codec) (cs ds : List Copy) (p d e : ℤ) (n : ℕ) → d +ℤ e ≡ pos 0 → Moves d cs ds → Moves e ds cs →
    best_at codec ds (p +ℤ d) n ≡ best_at codec cs p n
best_moves codec cs ds p d e n h m b =
    let frame = λ (c : Copy). c.frame in
    let here = map frame (filter (is_at p n) cs) in
    let there = map frame (filter (is_at (p +ℤ d) n) ds) in
    same_best codec there here
    (subst (λ q. AllByRecursion (λ (f : Frame). frames.StandsIn f (map frame (filter (is_at q n) cs))) there)
    (there_and_back p d e h) (frames_move ds cs (p +ℤ d) e n b))
    (frames_move cs ds p d n m)

block_moves : (rules : Rules) (cs ds : List Copy) (p d e : ℤ) → d +ℤ e ≡ pos 0 → Moves d cs ds → Moves e ds cs →
    block_at rules ds (p +ℤ d) ≡ block_at rules cs p
block_moves rules cs ds p d e h m b =
    map_same (λ n. stored (best_at rules.codec ds (p +ℤ d) n)) (λ n. stored (best_at rules.codec cs p n)) 0 rules.channels
    (λ n l. ap stored (best_moves rules.codec cs ds p d e n h m b))

-- the least and the greatest place bound all, and are places of some
abbrev IsLow : ℤ → List Copy → Type 0
IsLow z cs = ((c : Copy) → StandsIn c cs → z ≤ℤ c.place) × (c : Copy) × StandsIn c cs × (c.place ≡ z)

abbrev IsHigh : ℤ → List Copy → Type 0
IsHigh z cs = ((c : Copy) → StandsIn c cs → c.place ≤ℤ z) × (c : Copy) × StandsIn c cs × (c.place ≡ z)

least_start : (z : ℤ) (cs : List Copy) → least z cs ≤ℤ z
least_start z [] = omega (arith, ints)
least_start z (x ∷ cs) = let r = least_start (int_min z x.place) cs in omega (arith, ints, clamps)

least_below : (z : ℤ) (cs : List Copy) (c : Copy) → StandsIn c cs → least z cs ≤ℤ c.place
least_below z [] c s = absurd s
least_below z (x ∷ cs) c (inl e) =
    let r = least_start (int_min z x.place) cs in
    let k = ap (λ (y : Copy). y.place) e in
    omega (arith, ints, clamps)
least_below z (x ∷ cs) c (inr s) = least_below (int_min z x.place) cs c s

greatest_start : (z : ℤ) (cs : List Copy) → z ≤ℤ greatest z cs
greatest_start z [] = omega (arith, ints)
greatest_start z (x ∷ cs) = let r = greatest_start (int_max z x.place) cs in omega (arith, ints, clamps)

greatest_above : (z : ℤ) (cs : List Copy) (c : Copy) → StandsIn c cs → c.place ≤ℤ greatest z cs
greatest_above z [] c s = absurd s
greatest_above z (x ∷ cs) c (inl e) =
    let r = greatest_start (int_max z x.place) cs in
    let k = ap (λ (y : Copy). y.place) e in
    omega (arith, ints, clamps)
greatest_above z (x ∷ cs) c (inr s) = greatest_above (int_max z x.place) cs c s

-- of a first copy and others
abbrev Reached : ℤ → ℤ → List Copy → Type 0
Reached m z cs = (m ≡ z) ⊎ ((c : Copy) × StandsIn c cs × (c.place ≡ m))

min_is : (a b : ℤ) → (int_min a b ≡ a) ⊎ (int_min a b ≡ b)
min_is a b = by_lt_z a b (λ l. inl (omega (arith, ints, clamps))) (λ l. inr (omega (arith, ints, clamps)))

max_is : (a b : ℤ) → (int_max a b ≡ a) ⊎ (int_max a b ≡ b)
max_is a b = by_lt_z a b (λ l. inr (omega (arith, ints, clamps))) (λ l. inl (omega (arith, ints, clamps)))

reached_by : (m z w : ℤ) (x : Copy) (cs : List Copy) → (w ≡ z) ⊎ (w ≡ x.place) → Reached m w cs → Reached m z (x ∷ cs)
reached_by m z w x cs (inl e) (inl r) = inl (r ∙ e)
reached_by m z w x cs (inr e) (inl r) = inr (x, inl refl, sym (r ∙ e))
reached_by m z w x cs e (inr r) = inr (r.0, inr r.1, r.2)

least_reached : (z : ℤ) (cs : List Copy) → Reached (least z cs) z cs
least_reached z [] = inl refl
least_reached z (x ∷ cs) =
    let w = int_min z x.place in
    reached_by (least w cs) z w x cs (min_is z x.place) (least_reached w cs)

greatest_reached : (z : ℤ) (cs : List Copy) → Reached (greatest z cs) z cs
greatest_reached z [] = inl refl
greatest_reached z (x ∷ cs) =
    let w = int_max z x.place in
    reached_by (greatest w cs) z w x cs (max_is z x.place) (greatest_reached w cs)

some_copy : (m : ℤ) (c : Copy) (cs : List Copy) → Reached m c.place cs →
    (x : Copy) × StandsIn x (c ∷ cs) × (x.place ≡ m)
some_copy m c cs (inl e) = (c, inl refl, sym e)
some_copy m c cs (inr r) = (r.0, inr r.1, r.2)

all_above : (c : Copy) (cs : List Copy) (x : Copy) → StandsIn x (c ∷ cs) → least c.place cs ≤ℤ x.place
all_above c cs x (inl e) = let r = least_start c.place cs in let k = ap (λ (y : Copy). y.place) e in omega (arith, ints)
all_above c cs x (inr s) = least_below c.place cs x s

all_below : (c : Copy) (cs : List Copy) (x : Copy) → StandsIn x (c ∷ cs) → x.place ≤ℤ greatest c.place cs
all_below c cs x (inl e) = let r = greatest_start c.place cs in let k = ap (λ (y : Copy). y.place) e in omega (arith, ints)
all_below c cs x (inr s) = greatest_above c.place cs x s

low : (c : Copy) (cs : List Copy) → IsLow (least c.place cs) (c ∷ cs)
low c cs = let s = some_copy (least c.place cs) c cs (least_reached c.place cs) in (all_above c cs, s.0, s.1, s.2)

high : (c : Copy) (cs : List Copy) → IsHigh (greatest c.place cs) (c ∷ cs)
high c cs = let s = some_copy (greatest c.place cs) c cs (greatest_reached c.place cs) in (all_below c cs, s.0, s.1, s.2)

low_moves : (cs ds : List Copy) (y z d e : ℤ) → d +ℤ e ≡ pos 0 → Moves d cs ds → Moves e ds cs → IsLow y cs → IsLow z ds →
    y +ℤ d ≡ z
low_moves cs ds y z d e h m b l k =
    let c = l.1 in
    let x = k.1 in
    let u = k.0 (later_by d c) (m c l.2) in
    let v = l.0 (later_by e x) (b x k.2) in
    let p = l.3 in
    let q = k.3 in
    omega (arith, ints)

high_moves : (cs ds : List Copy) (y z d e : ℤ) → d +ℤ e ≡ pos 0 → Moves d cs ds → Moves e ds cs → IsHigh y cs →
    IsHigh z ds → y +ℤ d ≡ z
high_moves cs ds y z d e h m b l k =
    let c = l.1 in
    let x = k.1 in
    let u = k.0 (later_by d c) (m c l.2) in
    let v = l.0 (later_by e x) (b x k.2) in
    let p = l.3 in
    let q = k.3 in
    omega (arith, ints)

span_moves : (y z d : ℤ) → (z +ℤ d) -ℤ (y +ℤ d) ≡ z -ℤ y
span_moves y z d = omega (arith, ints)

swapped : (p d x : ℤ) → (p +ℤ d) +ℤ x ≡ (p +ℤ x) +ℤ d
swapped p d x = omega (arith, ints)

blocks_move : (rules : Rules) (cs ds : List Copy) (y z d e : ℤ) → d +ℤ e ≡ pos 0 → Moves d cs ds → Moves e ds cs →
    blocks_between rules ds (y +ℤ d) (z +ℤ d) ≡ blocks_between rules cs y z
blocks_move rules cs ds y z d e h m b =
    ap (λ s. map (λ k. block_at rules ds ((y +ℤ d) +ℤ pos k)) (range_with_len 0 (one_more s))) (span_moves y z d)
    ∙ map_same (λ k. block_at rules ds ((y +ℤ d) +ℤ pos k)) (λ k. block_at rules cs (y +ℤ pos k)) 0 (places_between y z)
    (λ k l. ap (block_at rules ds) (swapped y d (pos k)) ∙ block_moves rules cs ds (y +ℤ pos k) d e h m b)

pub released_alike : (rules : Rules) (cs ds : List Copy) (d e : ℤ) → d +ℤ e ≡ pos 0 → Moves d cs ds → Moves e ds cs →
    released_of rules cs ≡ released_of rules ds
released_alike rules [] [] d e h m b = refl
released_alike rules [] (x ∷ ds) d e h m b = absurd (b x (inl refl))
released_alike rules (c ∷ cs) [] d e h m b = absurd (m c (inl refl))
released_alike rules (c ∷ cs) (x ∷ ds) d e h m b =
    let y = least c.place cs in
    let z = greatest c.place cs in
    let low_is = low_moves (c ∷ cs) (x ∷ ds) y (least x.place ds) d e h m b (low c cs) (low x ds) in
    let high_is = high_moves (c ∷ cs) (x ∷ ds) z (greatest x.place ds) d e h m b (high c cs) (high x ds) in
    sym (blocks_move rules (c ∷ cs) (x ∷ ds) y z d e h m b)
    ∙ ap (λ p. blocks_between rules (x ∷ ds) p (z +ℤ d)) low_is
    ∙ ap (λ p. blocks_between rules (x ∷ ds) (least x.place ds) p) high_is
