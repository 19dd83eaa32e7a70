-- What was released stays a front of what is released of any longer list.
use Rattle.std.proofs.Common.{◌≡◌, ℕ, zero, suc, ◌+◌, ◌<◌, ◌≤◌, false, List, [], ◌∷◌, ◌++◌, length, map, take, drop, sym, refl, ap, ◌∙◌, subst, arith, ℤ, pos, negsuc, ◌+ℤ◌, ◌-ℤ◌}
use Rattle.std.specs.Prelude.{◌≤ℤ◌, ◌<ℤ◌, filter}
use Rattle.std.specs.List.{range_with_len, AllByRecursion}
use Rattle.std.specs.Int.{int_max, int_min}
use Rattle.std.proofs.lemmas.Int.{ints, clamps, by_lt_z}
use Rattle.std.proofs.lemmas.List.{append-nil, take-append-drop}
use Rattle.std.proofs.lemmas.List.Elements.{filter-append}
use Rattle.std.proofs.lemmas.List.Sums.{fold-append}
use Rattle.std.proofs.lemmas.List.FromFn.{take-map-range_with_len, length-map-range_with_len}
use Rattle.amr_frame.specs.declared.codec.Codec.{Codec}
use Rattle.amr_frame.specs.Frames.{Frame}
use Rattle.spec_session.specs.Copies.{Copy}
use Rattle.spec_session.specs.Quality.{best, stored}
use Rattle.spec_session.specs.Release.{best_at, block_at, blocks_between, is_at, least, greatest, places_between, one_more, released_of, released_to, same_place}
use Rattle.spec_session.specs.Session.{Rules}

-- each copy stands past t
abbrev pub Past : ℤ → List Copy → Type 0
Past t ds = AllByRecursion (λ (d : Copy). t <ℤ d.place) ds

not_same : (a b : ℤ) → b <ℤ a → same_place a b ≡ false
not_same a b h = grind (arith, ints)

none_at : (p t : ℤ) (c : ℕ) (ds : List Copy) → p ≤ℤ t → Past t ds → filter (is_at p c) ds ≡ []
none_at p t c [] le h = refl
none_at p t c (d ∷ ds) le h =
    let e : same_place d.place p ≡ false = not_same d.place p (let k = h.0 in omega (arith, ints)) in
    rw e (none_at p t c ds le h.1)

best_kept : (codec : Codec) (cs ds : List Copy) (p t : ℤ) (c : ℕ) → p ≤ℤ t → Past t ds → best_at codec (cs ++ ds) p c ≡ best_at codec cs p c
best_kept codec cs ds p t c le h =
    ap (λ xs. best codec (map (λ (x : Copy). x.frame) xs)) (filter-append (is_at p c) cs ds ∙ ap (λ xs. filter (is_at p c) cs ++ xs) (none_at p t c ds le h) ∙ append-nil (filter (is_at p c) cs))

pub map_same : {X : Type 0} (f g : ℕ → X) (a n : ℕ) → ((k : ℕ) → k < a + n → f k ≡ g k) → map f (range_with_len a n) ≡ map g (range_with_len a n)
map_same f g a zero h = refl
map_same f g a (suc n) h = λ i. h a (omega arith) i ∷ map_same f g (a + 1) n (λ k l. h k (omega arith)) i

pub block_kept : (rules : Rules) (cs ds : List Copy) (p t : ℤ) → p ≤ℤ t → Past t ds → block_at rules (cs ++ ds) p ≡ block_at rules cs p
block_kept rules cs ds p t le h =
    map_same (λ c. stored (best_at rules.codec (cs ++ ds) p c)) (λ c. stored (best_at rules.codec cs p c)) 0 rules.channels (λ c l. ap stored (best_kept rules.codec cs ds p t c le h))

pub least_kept : (z t : ℤ) (ds : List Copy) → z ≤ℤ t → Past t ds → least z ds ≡ z
least_kept z t [] le h = refl
least_kept z t (d ∷ ds) le h =
    let e : int_min z d.place ≡ z = (let k = h.0 in omega (arith, ints, clamps)) in
    ap (λ a. least a ds) e ∙ least_kept z t ds le h.1

pub greatest_grows : (z : ℤ) (ds : List Copy) → z ≤ℤ greatest z ds
greatest_grows z [] = omega (arith, ints)
greatest_grows z (d ∷ ds) =
    let k = greatest_grows (int_max z d.place) ds in
    omega (arith, ints, clamps)

one_more_grows : (x y : ℤ) → x ≤ℤ y → one_more x ≤ one_more y
one_more_grows (pos m) (pos n) h = omega (arith, ints)
one_more_grows (pos m) (negsuc n) h = absurd (omega (arith, ints))
one_more_grows (negsuc m) y h = omega arith

places_grow : (a b c : ℤ) → b ≤ℤ c → places_between a b ≤ places_between a c
places_grow a b c h = one_more_grows (b -ℤ a) (c -ℤ a) (omega (arith, ints))

pub in_span : (z : ℤ) (k : ℕ) → k < one_more z → pos k ≤ℤ z
in_span (pos n) k h = omega (arith, ints)
in_span (negsuc n) k h = absurd (omega arith)

no_span : (z : ℤ) → z <ℤ pos 0 → one_more z ≡ 0
no_span (pos n) h = absurd (omega (arith, ints))
no_span (negsuc n) h = refl

-- from the same place on, up to t and up to a place past it
front_kept : (rules : Rules) (cs ds : List Copy) (a b b' t : ℤ) → b ≤ℤ t → b ≤ℤ b' → Past t ds → take (places_between a b) (blocks_between rules (cs ++ ds) a b') ≡ blocks_between rules cs a b
front_kept rules cs ds a b b' t bt bb h =
    let f = λ (k : ℕ). block_at rules (cs ++ ds) (a +ℤ pos k) in
    let g = λ (k : ℕ). block_at rules cs (a +ℤ pos k) in
    take-map-range_with_len f 0 (places_between a b') (places_between a b) (places_grow a b b' bb)
    ∙ map_same f g 0 (places_between a b) (λ k l. block_kept rules cs ds (a +ℤ pos k) t (let i = in_span (b -ℤ a) k (omega arith) in omega (arith, ints)) h)

-- the part up to t is the front of the blocks up to any place that isn't before its last
kept_front : (rules : Rules) (c : Copy) (cs ds : List Copy) (t b' : ℤ) → int_min t (greatest c.place cs) ≤ℤ b' → Past t ds → take (length (released_to rules (c ∷ cs) t)) (blocks_between rules (c ∷ cs ++ ds) (least c.place (cs ++ ds)) b') ≡ released_to rules (c ∷ cs) t
kept_front rules c cs ds t b' bb h =
    let a = least c.place cs in
    let b = int_min t (greatest c.place cs) in
    let n : length (blocks_between rules (c ∷ cs) a b) ≡ places_between a b = length-map-range_with_len (λ (k : ℕ). block_at rules (c ∷ cs) (a +ℤ pos k)) 0 (places_between a b) in
    let le : least c.place (cs ++ ds) ≡ least a ds = fold-append (λ (z : ℤ) (x : Copy). int_min z x.place) c.place cs ds in
    by_lt_z t a
    (λ l.
    let none : places_between a b ≡ 0 = no_span (b -ℤ a) (omega (arith, ints, clamps)) in
    let nil : blocks_between rules (c ∷ cs) a b ≡ [] = ap (λ k. map (λ (k : ℕ). block_at rules (c ∷ cs) (a +ℤ pos k)) (range_with_len 0 k)) none in
    rw nil refl)
    (λ l.
    let same : least c.place (cs ++ ds) ≡ a = le ∙ least_kept a t ds l h in
    ap (λ k. take k (blocks_between rules (c ∷ cs ++ ds) (least c.place (cs ++ ds)) b')) n
    ∙ ap (λ z. take (places_between a b) (blocks_between rules (c ∷ cs ++ ds) z b')) same
    ∙ front_kept rules (c ∷ cs) ds a b b' t (omega (arith, ints, clamps)) bb h)

-- the greatest place of more copies isn't less
more_greatest : (z : ℤ) (cs ds : List Copy) → greatest z cs ≤ℤ greatest z (cs ++ ds)
more_greatest z cs ds =
    subst (λ y. greatest z cs ≤ℤ y) (sym (fold-append (λ (y : ℤ) (x : Copy). int_max y x.place) z cs ds)) (greatest_grows (greatest z cs) ds)

-- a list is its front and a rest
front_and_rest : {X : Type 0} (front all : List X) → take (length front) all ≡ front → (rest : List X) × (all ≡ front ++ rest)
front_and_rest front all e =
    let n = length front in
    (drop n all, sym (take-append-drop n all) ∙ ap (λ xs. xs ++ drop n all) e)

-- what is released of more copies, all past t, begins with what is released up to t
pub stays_front : (rules : Rules) (cs ds : List Copy) (t : ℤ) → Past t ds → (rest : List (List Frame)) × (released_of rules (cs ++ ds) ≡ released_to rules cs t ++ rest)
stays_front rules [] ds t h = (released_of rules ds, refl)
stays_front rules (c ∷ cs) ds t h =
    let b' = greatest c.place (cs ++ ds) in
    let upper = more_greatest c.place cs ds in
    front_and_rest (released_to rules (c ∷ cs) t) (released_of rules (c ∷ cs ++ ds)) (kept_front rules c cs ds t b' (omega (arith, ints, clamps)) h)

-- and so does what is released of them up to a place that isn't before t
pub stays_front_to : (rules : Rules) (cs ds : List Copy) (t t' : ℤ) → t ≤ℤ t' → Past t ds → (rest : List (List Frame)) × (released_to rules (cs ++ ds) t' ≡ released_to rules cs t ++ rest)
stays_front_to rules [] ds t t' le h = (released_to rules ds t', refl)
stays_front_to rules (c ∷ cs) ds t t' le h =
    let b' = int_min t' (greatest c.place (cs ++ ds)) in
    let upper = more_greatest c.place cs ds in
    front_and_rest (released_to rules (c ∷ cs) t) (released_to rules (c ∷ cs ++ ds) t') (kept_front rules c cs ds t b' (omega (arith, ints, clamps)) h)
