-- Octets and frames that are counted: those before a place of the robust order.
use Rattle.std.proofs.Common.{◌≡◌, ℕ, zero, suc, ◌+◌, ◌<◌, ◌≤◌, cond, ltb, eqb, List, [], ◌∷◌, ◌++◌, length, take, set, get_or, sum, min, sym, refl, ap, ◌∙◌, subst, arith, inl, inr}
use Rattle.std.specs.List.{All, range_with_len, sum_by, count_by, filter}
use Rattle.std.proofs.lemmas.Bool.{lt-ltb, le-ltb, cases_lt, cases_eq}
use Rattle.std.proofs.lemmas.Bool.Decides.{nat_tests}
use Rattle.std.proofs.lemmas.List.{length-append, get_or_append_left, get_or_push, get_or-set_same, get_or-set_other, take_all, append-nil}
use Rattle.std.proofs.lemmas.List.Elements.{filter-append}
use Rattle.std.proofs.lemmas.List.Sums.{sum_by-cons, sum_by_more, sum_by-le}
use Rattle.amr_guard.specs.Sorting.{IsOctet}
use Rattle.amr_guard.specs.Walking.{next_place}

-- of the first n frames, the octets with a number below o
abbrev pub below : List ℕ → ℕ → ℕ → ℕ
below ls o n = sum_by (λ x. min x o) (take n ls)

-- of the first n frames, those that have an octet o
abbrev pub before : List ℕ → ℕ → ℕ → ℕ
before ls o n = count_by (λ x. ltb o x) (take n ls)

-- how many octets stand before octet o of frame f in the robust order
abbrev pub rank : List ℕ → ℕ → ℕ → ℕ
rank ls f o = below ls o (length ls) + before ls o f

-- the first n frames that have an octet o
abbrev pub having : List ℕ → ℕ → ℕ → List ℕ
having ls o n = filter (λ f. ltb o (get_or ls f 0)) (range_with_len 0 n)

-- a sum of sums
pub sum-both : (f g h : ℕ → ℕ) → ((x : ℕ) → f x ≡ g x + h x) → (xs : List ℕ) → sum_by f xs ≡ sum_by g xs + sum_by h xs
sum-both f g h e [] = refl
sum-both f g h e (x ∷ xs) =
    let a = sum_by g xs in
    let b = sum_by h xs in
    sum_by-cons f x xs ∙ ap (λ n. n + sum_by f xs) (e x) ∙ ap (λ n. g x + h x + n) (sum-both f g h e xs) ∙ swap (g x) (h x) a b
    ∙ sym (ap (λ n. n + sum_by h (x ∷ xs)) (sum_by-cons g x xs) ∙ ap (λ n. g x + a + n) (sum_by-cons h x xs))
  where
    swap : (p q r s : ℕ) → p + q + (r + s) ≡ (p + r) + (q + s)
    swap p q r s = omega arith

min-next : (x o : ℕ) → min x (suc o) ≡ min x o + cond (ltb o x) 1 0
min-next x o = elim (cases_lt o x) [
  | inl t ↦ (let e = lt-ltb o x t in rw e (omega arith))
  | inr t ↦ (let e = le-ltb o x t in rw e (omega arith))
]

-- one octet of each frame more
pub below-next : (ls : List ℕ) (o n : ℕ) → below ls (suc o) n ≡ below ls o n + before ls o n
below-next ls o n = sum-both (λ x. min x (suc o)) (λ x. min x o) (λ x. cond (ltb o x) 1 0) (λ x. min-next x o) (take n ls)

pub sum-zero : (xs : List ℕ) → sum_by (λ x. min x 0) xs ≡ 0
sum-zero [] = refl
sum-zero (x ∷ xs) = sum_by-cons (λ y. min y 0) x xs ∙ omega (arith, sum-zero xs)

pub below-zero : (ls : List ℕ) (n : ℕ) → below ls 0 n ≡ 0
below-zero ls n = sum-zero (take n ls)

-- a frame more
pub before-more : (ls : List ℕ) (o n : ℕ) → n < length ls → before ls o (suc n) ≡ before ls o n + cond (ltb o (get_or ls n 0)) 1 0
before-more ls o n h = let e : suc n ≡ n + 1 = omega arith in ap (before ls o) e ∙ sum_by_more (λ x. cond (ltb o x) 1 0) ls n 0 h

-- a frame more that has the octet, or has it not
pub before-has : (ls : List ℕ) (o n : ℕ) → n < length ls → o < get_or ls n 0 → before ls o (suc n) ≡ before ls o n + 1
before-has ls o n h p = before-more ls o n h ∙ ap (λ b. before ls o n + cond b 1 0) (lt-ltb o (get_or ls n 0) p)

pub before-lacks : (ls : List ℕ) (o n : ℕ) → n < length ls → get_or ls n 0 ≤ o → before ls o (suc n) ≡ before ls o n
before-lacks ls o n h p = before-more ls o n h ∙ ap (λ b. before ls o n + cond b 1 0) (le-ltb o (get_or ls n 0) p) ∙ omega arith

-- a range is one longer at its end
range-more : (a n j : ℕ) → a + n ≡ j → range_with_len a (suc n) ≡ range_with_len a n ++ j ∷ []
range-more a zero j e = ap (λ k. k ∷ []) (omega (arith, e))
range-more a (suc n) j e = ap {B = List ℕ} (λ w. a ∷ w) (range-more (a + 1) n j (omega (arith, e)))

pub range-next : (n : ℕ) → range_with_len 0 (suc n) ≡ range_with_len 0 n ++ n ∷ []
range-next n = range-more 0 n n (omega arith)

having-more : (ls : List ℕ) (o n : ℕ) → having ls o (suc n) ≡ having ls o n ++ cond (ltb o (get_or ls n 0)) (n ∷ []) []
having-more ls o n =
    let p = λ (f : ℕ). ltb o (get_or ls f 0) in
    ap (filter p) (range-next n) ∙ filter-append p (range_with_len 0 n) (n ∷ [])

having-has : (ls : List ℕ) (o n : ℕ) → o < get_or ls n 0 → having ls o (suc n) ≡ having ls o n ++ n ∷ []
having-has ls o n h = having-more ls o n ∙ ap (λ b. having ls o n ++ cond b (n ∷ []) []) (lt-ltb o (get_or ls n 0) h)

having-lacks : (ls : List ℕ) (o n : ℕ) → get_or ls n 0 ≤ o → having ls o (suc n) ≡ having ls o n
having-lacks ls o n h = having-more ls o n ∙ ap (λ b. having ls o n ++ cond b (n ∷ []) []) (le-ltb o (get_or ls n 0) h) ∙ append-nil (having ls o n)

pub length-having : (ls : List ℕ) (o n : ℕ) → n ≤ length ls → length (having ls o n) ≡ before ls o n
length-having ls o zero h = refl
length-having ls o (suc n) h =
    let rec = length-having ls o n (omega arith) in
    let lt : n < length ls = omega arith in
    elim (cases_lt o (get_or ls n 0)) [
      | inl t ↦ ap length (having-has ls o n t) ∙ length-append (having ls o n) (n ∷ []) ∙ ap (λ k. k + 1) rec ∙ sym (before-has ls o n lt t)
      | inr t ↦ ap length (having-lacks ls o n t) ∙ rec ∙ sym (before-lacks ls o n lt t)
    ]

-- a frame stands behind those before it that have the octet
abbrev Stands : List ℕ → ℕ → ℕ → ℕ → Type 0
Stands ls o n f = (before ls o f < before ls o n) × (get_or (having ls o n) (before ls o f) 0 ≡ f)

pub having-at : (ls : List ℕ) (o n f : ℕ) → n ≤ length ls → f < n → o < get_or ls f 0 → Stands ls o n f
having-at ls o zero f h l p = absurd (omega arith)
having-at ls o (suc n) f h l p =
    elim (cases_eq f n) [
      | inl e ↦ subst (Stands ls o (suc n)) (sym e) (last (ap_lt e))
      | inr ne ↦ earlier (having-at ls o n f (omega arith) (omega (arith, ne)) p)
    ]
  where
    lt : n < length ls
    lt = omega arith

    ap_lt : f ≡ n → o < get_or ls n 0
    ap_lt e = subst (λ k. o < get_or ls k 0) e p

    last : o < get_or ls n 0 → Stands ls o (suc n) n
    last q = (
      omega (arith, before-has ls o n lt q),
      ap (λ w. get_or w (before ls o n) 0) (having-has ls o n q) ∙ get_or_push (having ls o n) n 0 (before ls o n) (length-having ls o n (omega arith)),
    )

    earlier : Stands ls o n f → Stands ls o (suc n) f
    earlier r = (
      omega (arith, r.0, before-more ls o n lt),
      ap (λ w. get_or w (before ls o f) 0) (having-more ls o n)
          ∙ get_or_append_left (having ls o n) (cond (ltb o (get_or ls n 0)) (n ∷ []) []) 0 (before ls o f) (omega (arith, r.0, length-having ls o n (omega arith))) ∙ r.1,
    )

-- each frame that has the octet is found by how many do before it
pub having-find : (ls : List ℕ) (o n j : ℕ) → n ≤ length ls → j < before ls o n → (f : ℕ) × (f < n) × (o < get_or ls f 0) × (before ls o f ≡ j)
having-find ls o zero j h l = absurd (omega arith)
having-find ls o (suc n) j h l =
    elim (cases_lt j (before ls o n)) [
      | inl t ↦ let r = having-find ls o n j (omega arith) t in (r.0, omega (arith, r.1), r.2, r.3)
      | inr t ↦ elim (cases_lt o (get_or ls n 0)) [
        | inl q ↦ (n, omega arith, q, omega (arith, t, l, before-has ls o n (omega arith) q))
        | inr q ↦ absurd (omega (arith, t, l, before-lacks ls o n (omega arith) q))
      ]
    ]

-- the octets below the greatest length are all
pub below-all : (ls : List ℕ) (m n : ℕ) → n ≤ length ls → ((k : ℕ) → k < length ls → get_or ls k 0 ≤ m) → below ls m n ≡ sum (take n ls)
below-all ls m zero h e = refl
below-all ls m (suc n) h e =
    let s : suc n ≡ n + 1 = omega arith in
    let lt : n < length ls = omega arith in
    let most : get_or ls n 0 ≤ m = e n lt in
    let same : min (get_or ls n 0) m ≡ get_or ls n 0 = omega (arith, most) in
    ap (below ls m) s ∙ sum_by_more (λ x. min x m) ls n 0 lt ∙ ap (λ k. k + min (get_or ls n 0) m) (below-all ls m n (omega arith) e)
    ∙ ap (λ k. sum (take n ls) + k) same ∙ sym (ap (λ k. sum (take k ls)) s ∙ sum_by_more (λ x. x) ls n 0 lt)

-- a number more of each that is greater
pub sum-next : (xs : List ℕ) (o : ℕ) → sum_by (λ x. min x (o + 1)) xs ≡ sum_by (λ x. min x o) xs + count_by (λ x. ltb o x) xs
sum-next xs o = sum-both (λ x. min x (o + 1)) (λ x. min x o) (λ x. cond (ltb o x) 1 0) (λ x. ap (λ k. min x k) (one o) ∙ min-next x o) xs
  where
    one : (o : ℕ) → o + 1 ≡ suc o
    one o = omega arith

-- those that are greater than a number are one more or greater than that
pub count-next : (xs : List ℕ) (o : ℕ) → count_by (λ x. ltb o x) xs ≡ count_by (λ x. ltb (o + 1) x) xs + count_by (λ x. eqb x (o + 1)) xs
count-next xs o = sum-both (λ x. cond (ltb o x) 1 0) (λ x. cond (ltb (o + 1) x) 1 0) (λ x. cond (eqb x (o + 1)) 1 0) (λ x. grind (arith, nat_tests)) xs

-- all are 0 or greater
pub count-all : (xs : List ℕ) → length xs ≡ count_by (λ x. ltb 0 x) xs + count_by (λ x. eqb x 0) xs
count-all xs = ones xs ∙ sum-both (λ x. 1) (λ x. cond (ltb 0 x) 1 0) (λ x. cond (eqb x 0) 1 0) (λ x. grind (arith, nat_tests)) xs
  where
    ones : (xs : List ℕ) → length xs ≡ sum_by (λ x. 1) xs
    ones [] = refl
    ones (x ∷ xs) = omega (arith, ones xs) ∙ sym (sum_by-cons (λ y. 1) x xs)

-- where the next octet goes is the rank
pub next-rank : (ls : List ℕ) (f o : ℕ) → next_place ls f o ≡ rank ls f o
next-rank ls f o = ap (λ w. sum_by (λ x. min x o) w + before ls o f) (sym (take_all (length ls) ls (omega arith)))

-- the next places behind a frame
pub next-behind : (ls : List ℕ) (f o : ℕ) → f < length ls → next_place ls (f + 1) o ≡ next_place ls f o + cond (ltb o (get_or ls f 0)) 1 0
next-behind ls f o h = ap (λ k. sum_by (λ x. min x o) ls + k) (sum_by_more (λ x. cond (ltb o x) 1 0) ls f 0 h) ∙ omega arith

-- the next places once one of them is taken
pub next_step : (first : ℕ → ℕ) (places : List ℕ) (o : ℕ) → o < length places → ((k : ℕ) → k < 60 → get_or places k 0 ≡ first k + cond (ltb k o) 1 0)
    → (k : ℕ) → k < 60 → get_or (set places o (get_or places o 0 + 1)) k 0 ≡ first k + cond (ltb k (o + 1)) 1 0
next_step first places o l h k small =
    elim (cases_eq k o) [
      | inl e ↦ ap (λ x. get_or (set places o (get_or places o 0 + 1)) x 0) e ∙ get_or-set_same places o (get_or places o 0 + 1) 0 l ∙ ap (λ x. get_or places x 0 + 1) (sym e) ∙ here e (h k small)
      | inr ne ↦ get_or-set_other places o k (get_or places o 0 + 1) 0 ne ∙ h k small ∙ there ne
    ]
  where
    here : k ≡ o → get_or places k 0 ≡ first k + cond (ltb k o) 1 0 → get_or places k 0 + 1 ≡ first k + cond (ltb k (o + 1)) 1 0
    here e p =
        let a = le-ltb k o (omega (arith, e)) in
        let b = lt-ltb k (o + 1) (omega (arith, e)) in
        ap (λ x. x + 1) (p ∙ ap (λ t. first k + cond t 1 0) a) ∙ omega arith ∙ ap (λ t. first k + cond t 1 0) (sym b)

    there : (k ≡ o → ⊥) → first k + cond (ltb k o) 1 0 ≡ first k + cond (ltb k (o + 1)) 1 0
    there ne = elim (cases_lt k o) [
      | inl t ↦ ap (λ t. first k + cond t 1 0) (lt-ltb k o t ∙ sym (lt-ltb k (o + 1) (omega arith)))
      | inr t ↦ ap (λ t. first k + cond t 1 0) (le-ltb k o t ∙ sym (le-ltb k (o + 1) (omega (arith, t, ne))))
    ]

-- the next place of an octet is its rank while its turn has not come
pub next-now : (ls : List ℕ) (f o : ℕ) → next_place ls f o + cond (ltb o o) 1 0 ≡ rank ls f o
next-now ls f o = ap (λ t. next_place ls f o + cond t 1 0) (le-ltb o o (omega arith)) ∙ omega (arith, next-rank ls f o)

-- the octets of a payload
pub sum-bounded : (ls : List ℕ) → length ls ≤ 384 → All (λ l. l ≤ 60) ls → sum ls ≤ 23040
sum-bounded ls h short = let e = sum_by-le (λ x. x) 60 ls short in omega (arith, h, e)

-- whose turn it is, its place is its rank
pub turn : (ls places : List ℕ) (f o : ℕ) → IsOctet ls f o → All (λ l. l ≤ 60) ls → ((k : ℕ) → k < 60 → get_or places k 0 ≡ next_place ls f k + cond (ltb k o) 1 0) → get_or places o 0 ≡ rank ls f o
turn ls places f o v short h = h o (omega (arith, v.1, short f 0 v.0)) ∙ next-now ls f o
