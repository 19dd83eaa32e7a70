-- Each place of either order is that of one octet of one frame (RFC 4867, 4.4.3 and 4.4.4).
use Rattle.std.proofs.Common.{◌≡◌, ℕ, zero, suc, ◌+◌, ◌-◌, ◌<◌, ◌≤◌, Bool, true, false, cond, not, eqb, ltb, List, [], ◌∷◌, ◌++◌, length, map, get_or, sum, sym, refl, ap, ◌∙◌, arith, inl, inr}
use Rattle.std.specs.Prelude.{◌&&◌, filter, max}
use Rattle.std.specs.List.{fold, flat_map, AllByRecursion, range_with_len, position_or_len}
use Rattle.std.proofs.lemmas.Bool.{cases_lt, eq-eqb, ne_eqb, lt-ltb, le-ltb, ltb-true}
use Rattle.std.proofs.lemmas.List.{length-append, length-map}
use Rattle.std.proofs.lemmas.List.FromFn.{length-range_with_len, fill_by_all}
use Rattle.std.proofs.lemmas.List.Sums.{sum_by-cons}
use Rattle.amr_bits.proofs.Lists.{all_append, all_images, all_more, all_range, all_get, all_kept, length-cond, all_below}
use Rattle.spec_payload.specs.Reading.{is_place}
use Rattle.spec_payload.specs.RobustOrder.{Place, place, order, plain_order, robust_order}

-- numbers that grow
abbrev Grows : List ℕ → Type 0
Grows [] = Unit {0}
Grows (x ∷ xs) = AllByRecursion (λ y. x < y) xs × Grows xs

grows_range : (a n : ℕ) → Grows (range_with_len a n)
grows_range a zero = tt
grows_range a (suc n) = (all_range (λ y. a < y) (a + 1) n (λ k l m. omega arith), grows_range (a + 1) n)

grows_cond : (b : Bool) (x : ℕ) (ys : List ℕ) → AllByRecursion (λ y. x < y) ys → Grows ys
    → Grows (cond b (x ∷ ys) ys)
grows_cond true x ys a g = (a, g)
grows_cond false x ys a g = g

grows_kept : (q : ℕ → Bool) (xs : List ℕ) → Grows xs → Grows (filter q xs)
grows_kept q [] g = tt
grows_kept q (x ∷ xs) g = grows_cond (q x) x (filter q xs) (all_kept q (λ y. x < y) xs (all_more (λ y. x < y) (λ y. q y ≡ true → x < y) xs (λ y l e. l) g.0)) (grows_kept q xs g.1)

-- one place isn't another
abbrev Apart : Place → Place → Type 0
Apart x y = is_place y.octet y.frame x ≡ false

-- no place stands twice
abbrev Distinct : List Place → Type 0
Distinct [] = Unit {0}
Distinct (x ∷ xs) = AllByRecursion (Apart x) xs × Distinct xs

distinct_append : (xs ys : List Place) → Distinct xs → Distinct ys
    → AllByRecursion (λ x. AllByRecursion (Apart x) ys) xs → Distinct (xs ++ ys)
distinct_append [] ys a b h = b
distinct_append (x ∷ xs) ys a b h = (all_append (Apart x) xs ys a.0 h.0, distinct_append xs ys a.1 b h.1)

module _ (mk : ℕ → ℕ → Place) (outer : (a b c d : ℕ) → a < c → Apart (mk a b) (mk c d)) (inner : (a b d : ℕ) → b < d → Apart (mk a b) (mk a d)) (members : ℕ → List ℕ) where
  -- the places of one row, and of the rows from row s on
  abbrev row : ℕ → List ℕ → List Place
  row a ys = map (mk a) ys

  abbrev rows : ℕ → ℕ → List Place
  rows s n = flat_map (λ a. row a (members a)) (range_with_len s n)

  distinct_row : (a : ℕ) (ys : List ℕ) → Grows ys → Distinct (row a ys)
  distinct_row a [] g = tt
  distinct_row a (y ∷ ys) g = (all_images (mk a) (Apart (mk a y)) ys (all_more (λ z. y < z) (λ z. Apart (mk a y) (mk a z)) ys (λ z l. inner a y z l) g.0), distinct_row a ys g.1)

  -- what holds in each row
  all_rows : (P : Place → Type 0) (s n : ℕ)
      → ((a : ℕ) → s ≤ a → a < s + n → AllByRecursion P (row a (members a)))
      → AllByRecursion P (rows s n)
  all_rows P s zero h = tt
  all_rows P s (suc n) h = all_append P (row s (members s)) (rows (s + 1) n) (h s (omega arith) (omega arith)) (all_rows P (s + 1) n (λ a l m. h a (omega arith) (omega arith)))

  each : (P : ℕ → Type 0) (ys : List ℕ) → ((y : ℕ) → P y) → AllByRecursion P ys
  each P [] h = tt
  each P (y ∷ ys) h = (h y, each P ys h)

  later : (a b s n : ℕ) → a < s → AllByRecursion (Apart (mk a b)) (rows s n)
  later a b s n l = all_rows (Apart (mk a b)) s n (λ c x y. all_images (mk c) (Apart (mk a b)) (members c) (each (λ z. Apart (mk a b) (mk c z)) (members c) (λ z. outer a b c z (omega arith))))

  distinct_rows : ((a : ℕ) → Grows (members a)) → (s n : ℕ) → Distinct (rows s n)
  distinct_rows g s zero = tt
  distinct_rows g s (suc n) =
      distinct_append (row s (members s)) (rows (s + 1) n) (distinct_row s (members s) (g s)) (distinct_rows g (s + 1) n)
      (all_images (mk s) (λ x. AllByRecursion (Apart x) (rows (s + 1) n)) (members s) (each (λ z. AllByRecursion (Apart (mk s z)) (rows (s + 1) n)) (members s) (λ z. later s z (s + 1) n (omega arith))))

  length-rows : (s n : ℕ)
      → length (rows s n) ≡ sum (map (λ a. length (members a)) (range_with_len s n))
  length-rows s zero = refl
  length-rows s (suc n) =
      length-append (row s (members s)) (rows (s + 1) n) ∙ ap (λ z. z + length (rows (s + 1) n)) (length-map (members s) (mk s))
      ∙ ap (λ z. length (members s) + z) (length-rows (s + 1) n) ∙ sym (sum_by-cons (λ x. x) (length (members s)) (map (λ a. length (members a)) (range_with_len (s + 1) n)))

-- where one of two tests fails
pub fails_first : (a b : Bool) → a ≡ false → (a && b) ≡ false
fails_first a b e = rw e refl

pub fails_second : (a b : Bool) → b ≡ false → (a && b) ≡ false
fails_second true b e = e
fails_second false b e = refl

-- the two ways to make a place of a row and what stands in it
abbrev by_frame : ℕ → ℕ → Place
by_frame f o = place o f

apart_frames : (a b c d : ℕ) → a < c → Apart (place b a) (place d c)
apart_frames a b c d l = fails_second (eqb b d) (eqb a c) (ne_eqb a c (λ e. omega arith))

apart_octets : (a b c d : ℕ) → a < c → Apart (place a b) (place c d)
apart_octets a b c d l = fails_first (eqb a c) (eqb b d) (ne_eqb a c (λ e. omega arith))

-- how many numbers are above o
abbrev above : List ℕ → ℕ → ℕ
above ls o = length (filter (λ l. ltb o l) ls)

-- the same by place
above_by : (ls xs : List ℕ) (o a : ℕ) → ((k : ℕ) → get_or ls (a + k) 0 ≡ get_or xs k 0)
    → length (filter (λ f. ltb o (get_or ls f 0)) (range_with_len a (length xs))) ≡ above xs o
above_by ls [] o a h = refl
above_by ls (x ∷ xs) o a h =
    let z : a ≡ a + 0 = omega arith in
    let here : get_or ls a 0 ≡ x = ap (λ k. get_or ls k 0) z ∙ h 0 in
    let next : (k : ℕ) → a + 1 + k ≡ a + suc k = λ k. omega arith in
    let rest = above_by ls xs o (a + 1) (λ k. ap (λ j. get_or ls j 0) (next k) ∙ h (suc k)) in
    let kept = filter (λ f. ltb o (get_or ls f 0)) (range_with_len (a + 1) (length xs)) in
    ap (λ y. length (cond (ltb o y) (a ∷ kept) kept)) here ∙ length-cond (ltb o x) a kept x (filter (λ l. ltb o l) xs) rest

-- how many of the numbers from s on, m of them, are below l
abbrev unders : ℕ → ℕ → ℕ → ℕ
unders l s zero = 0
unders l s (suc m) = cond (ltb s l) 1 0 + unders l (s + 1) m

unders_are : (l s m : ℕ) → l ≤ s + m → unders l s m ≡ l - s
unders_are l s zero h = omega arith
unders_are l s (suc m) h =
    let r = unders_are l (s + 1) m (omega arith) in
    elim (cases_lt s l) [
      | inl t ↦ ap (λ b. cond b 1 0 + unders l (s + 1) m) (lt-ltb s l t) ∙ omega arith
      | inr t ↦ ap (λ b. cond b 1 0 + unders l (s + 1) m) (le-ltb s l t) ∙ omega arith
    ]

abbrev sum_above : List ℕ → ℕ → ℕ → ℕ
sum_above ls s m = sum (map (above ls) (range_with_len s m))

length-more : (b : Bool) (x : ℕ) (xs : List ℕ)
    → length (cond b (x ∷ xs) xs) ≡ cond b 1 0 + length xs
length-more true x xs = omega arith
length-more false x xs = omega arith

above_more : (l : ℕ) (ls : List ℕ) (s m : ℕ)
    → sum_above (l ∷ ls) s m ≡ unders l s m + sum_above ls s m
above_more l ls s zero = omega arith
above_more l ls s (suc m) =
    let r = above_more l ls (s + 1) m in
    let one = length-more (ltb s l) l (filter (λ x. ltb s x) ls) in
    let a = sum_by-cons (λ x. x) (above (l ∷ ls) s) (map (above (l ∷ ls)) (range_with_len (s + 1) m)) in
    let b = sum_by-cons (λ x. x) (above ls s) (map (above ls) (range_with_len (s + 1) m)) in
    a ∙ omega (arith, r, one, b)

none_above : (s m : ℕ) → sum_above [] s m ≡ 0
none_above s zero = refl
none_above s (suc m) = sum_by-cons (λ x. x) 0 (map (above []) (range_with_len (s + 1) m)) ∙ (let r = none_above (s + 1) m in omega arith)

all_above : (ls : List ℕ) (m : ℕ) → AllByRecursion (λ x. x ≤ m) ls → sum_above ls 0 m ≡ sum ls
all_above [] m h = none_above 0 m
all_above (l ∷ ls) m h =
    let r = all_above ls m h.1 in
    let here = h.0 in
    let u = unders_are l 0 m (omega arith) in
    above_more l ls 0 m ∙ omega (arith, sum_by-cons (λ x. x) l ls)

-- the frames that have octet o
abbrev having : List ℕ → ℕ → List ℕ
having ls o = filter (λ f. ltb o (get_or ls f 0)) (range_with_len 0 (length ls))

length-robust : (ls : List ℕ) → length (robust_order ls) ≡ sum ls
length-robust ls =
    length-rows place (λ a b c d l. apart_octets a b c d l) (λ a b d l. apart_frames b a d a l) (having ls) 0 (fold max 0 ls)
    ∙ alike (fold max 0 ls) 0 ∙ all_above ls (fold max 0 ls) (all_below ls 0 (fold max 0 ls) (omega arith))
  where
    alike : (n s : ℕ)
        → sum (map (λ o. length (having ls o)) (range_with_len s n)) ≡ sum_above ls s n
    alike zero s = refl
    alike (suc n) s =
        sum_by-cons (λ x. x) (length (having ls s)) (map (λ o. length (having ls o)) (range_with_len (s + 1) n))
        ∙ (λ i. above_by ls ls s 0 (λ k. let z : 0 + k ≡ k = omega arith in ap (λ j. get_or ls j 0) z) i + alike n (s + 1) i)
        ∙ sym (sum_by-cons (λ x. x) (above ls s) (map (above ls) (range_with_len (s + 1) n)))

length-plain : (ls : List ℕ) → length (plain_order ls) ≡ sum ls
length-plain ls =
    length-rows by_frame (λ a b c d l. apart_frames a b c d l) (λ a b d l. apart_octets b a d a l) (λ f. range_with_len 0 (get_or ls f 0)) 0 (length ls)
    ∙ alike (length ls) 0 ∙ ap sum (sym (fill_by_all (λ (f : ℕ). get_or ls f 0) ls (length ls) 0 refl (λ k l. refl)))
  where
    alike : (n s : ℕ)
        → sum (map (λ f. length (range_with_len 0 (get_or ls f 0))) (range_with_len s n)) ≡ sum (map (λ f. get_or ls f 0) (range_with_len s n))
    alike zero s = refl
    alike (suc n) s =
        sum_by-cons (λ x. x) (length (range_with_len 0 (get_or ls s 0))) (map (λ f. length (range_with_len 0 (get_or ls f 0))) (range_with_len (s + 1) n))
        ∙ (λ i. length-range_with_len 0 (get_or ls s 0) i + alike n (s + 1) i)
        ∙ sym (sum_by-cons (λ x. x) (get_or ls s 0) (map (λ f. get_or ls f 0) (range_with_len (s + 1) n)))

-- either order has as many places as there are octets
pub length-order : (sorting : Bool) (ls : List ℕ) → length (order sorting ls) ≡ sum ls
length-order true ls = length-robust ls
length-order false ls = length-plain ls

-- no place stands twice in either order
distinct_order : (sorting : Bool) (ls : List ℕ) → Distinct (order sorting ls)
distinct_order true ls =
    distinct_rows place (λ a b c d l. apart_octets a b c d l) (λ a b d l. apart_frames b a d a l) (having ls)
    (λ o. grows_kept (λ f. ltb o (get_or ls f 0)) (range_with_len 0 (length ls)) (grows_range 0 (length ls))) 0 (fold max 0 ls)
distinct_order false ls =
    distinct_rows by_frame (λ a b c d l. apart_frames a b c d l) (λ a b d l. apart_octets b a d a l) (λ f. range_with_len 0 (get_or ls f 0))
    (λ f. grows_range 0 (get_or ls f 0)) 0 (length ls)

-- a place is that of an octet of a frame
abbrev pub IsOctet : List ℕ → Place → Type 0
IsOctet ls x = (x.frame < length ls) × (x.octet < get_or ls x.frame 0)

octets_order : (sorting : Bool) (ls : List ℕ) → AllByRecursion (IsOctet ls) (order sorting ls)
octets_order true ls =
    all_rows place (λ a b c d l. apart_octets a b c d l) (λ a b d l. apart_frames b a d a l) (having ls) (IsOctet ls) 0 (fold max 0 ls)
    (λ o l m. all_images (place o) (IsOctet ls) (having ls o) (all_kept (λ f. ltb o (get_or ls f 0)) (λ f. IsOctet ls (place o f)) (range_with_len 0 (length ls)) (all_range (λ f. ltb o (get_or ls f 0) ≡ true → IsOctet ls (place o f)) 0 (length ls) (λ f x y e. (omega arith, ltb-true o (get_or ls f 0) e)))))
octets_order false ls =
    all_rows by_frame (λ a b c d l. apart_frames a b c d l) (λ a b d l. apart_octets b a d a l) (λ f. range_with_len 0 (get_or ls f 0)) (IsOctet ls) 0 (length ls)
    (λ f l m. all_images (by_frame f) (IsOctet ls) (range_with_len 0 (get_or ls f 0)) (all_range (λ o. IsOctet ls (place o f)) 0 (get_or ls f 0) (λ o x y. (omega arith, omega arith))))

-- each place is that of an octet
pub is_octet : (sorting : Bool) (ls : List ℕ) (j : ℕ) (d : Place) → j < length (order sorting ls)
    → IsOctet ls (get_or (order sorting ls) j d)
is_octet sorting ls j d l = all_get (IsOctet ls) (order sorting ls) j d (octets_order sorting ls) l

-- where places are distinct, each is the first of its kind
first_met : (xs : List Place) (j : ℕ) (d : Place) → Distinct xs → j < length xs
    → position_or_len (is_place (get_or xs j d).octet (get_or xs j d).frame) xs ≡ j
first_met [] j d h l = absurd (omega arith)
first_met (x ∷ xs) zero d h l =
    let e : is_place x.octet x.frame x ≡ true = rw (eq-eqb x.octet x.octet refl, eq-eqb x.frame x.frame refl) refl in
    ap (λ b. cond (not b) (1 + position_or_len (is_place x.octet x.frame) xs) 0) e
first_met (x ∷ xs) (suc j) d h l =
    let y = get_or xs j d in
    let e : is_place y.octet y.frame x ≡ false = all_get (Apart x) xs j d h.0 (omega arith) in
    let r = first_met xs j d h.1 (omega arith) in
    ap (λ b. cond (not b) (1 + position_or_len (is_place y.octet y.frame) xs) 0) e ∙ omega arith

-- each place of either order is found where it stands
pub is_met : (sorting : Bool) (ls : List ℕ) (j : ℕ) (d : Place) → j < length (order sorting ls)
    → position_or_len (is_place (get_or (order sorting ls) j d).octet (get_or (order sorting ls) j d).frame) (order sorting ls) ≡ j
is_met sorting ls j d l = first_met (order sorting ls) j d (distinct_order sorting ls) l
