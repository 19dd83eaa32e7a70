-- Each octet of each frame has one place in the robust order, and each place has one octet.
use Rattle.std.proofs.Common.{◌≡◌, ℕ, zero, suc, ◌+◌, ◌-◌, ◌<◌, true, false, not, eqb, List, [], ◌∷◌, ◌++◌, length, map, get_or, sum, sym, refl, ap, ◌∙◌, subst, arith, inl, inr}
use Rattle.std.specs.Prelude.{max, flat_map, fold}
use Rattle.std.specs.List.{range_with_len}
use Rattle.std.proofs.lemmas.Bool.{cases_lt, cases_eq, eq-eqb, eqb-true, and_parts, false_from_ne_true}
use Rattle.std.proofs.lemmas.List.{length-append, length-map, get_or_append_left, get_or-append-add, get_or-map, append-nil, take_all}
use Rattle.std.proofs.lemmas.List.Concat.{flat_map-append}
use Rattle.std.proofs.lemmas.List.Sums.{prefix_len_is}
use Rattle.spec_payload.specs.RobustOrder.{Place, place, robust_order}
use Rattle.spec_payload.specs.Reading.{is_place}
use Rattle.amr_guard.specs.Sorting.{IsOctet, robust_place}
use Rattle.amr_guard.proofs.Counts.{below, before, rank, having, below-next, below-zero, range-next, length-having, having-at, having-find, below-all}
use Rattle.amr_bits.proofs.Lists.{below_max}

-- the places of octet o, and of the first m octets
abbrev row : List ℕ → ℕ → List Place
row ls o = map (λ f. place o f) (having ls o (length ls))

abbrev rows : List ℕ → ℕ → List Place
rows ls m = flat_map (row ls) (range_with_len 0 m)

rows-more : (ls : List ℕ) (m : ℕ) → rows ls (suc m) ≡ rows ls m ++ row ls m
rows-more ls m = ap (flat_map (row ls)) (range-next m) ∙ flat_map-append (row ls) (range_with_len 0 m) (m ∷ []) ∙ ap (λ w. rows ls m ++ w) (append-nil (row ls m))

length-row : (ls : List ℕ) (o : ℕ) → length (row ls o) ≡ before ls o (length ls)
length-row ls o = length-map (having ls o (length ls)) (λ f. place o f) ∙ length-having ls o (length ls) (omega arith)

length-rows : (ls : List ℕ) (m : ℕ) → length (rows ls m) ≡ below ls m (length ls)
length-rows ls zero = sym (below-zero ls (length ls))
length-rows ls (suc m) =
    ap length (rows-more ls m) ∙ length-append (rows ls m) (row ls m) ∙ ap (λ k. k + length (row ls m)) (length-rows ls m)
    ∙ ap (λ k. below ls m (length ls) + k) (length-row ls m) ∙ sym (below-next ls m (length ls))

-- octet o of frame f stands at its rank
abbrev At : List ℕ → List Place → ℕ → ℕ → Type 0
At ls w f o = (rank ls f o < length w) × ((d : Place) → get_or w (rank ls f o) d ≡ place o f)

rows-at : (ls : List ℕ) (m f o : ℕ) → IsOctet ls f o → o < m → At ls (rows ls m) f o
rows-at ls zero f o v l = absurd (omega arith)
rows-at ls (suc m) f o v l = subst (λ w. At ls w f o) (sym (rows-more ls m)) (elim (cases_eq o m) [
  | inl e ↦ subst (λ k. At ls (rows ls m ++ row ls m) f k) (sym e) (last (subst (λ k. k < get_or ls f 0) e v.1))
  | inr ne ↦ earlier (rows-at ls m f o v (omega (arith, ne)))
])
  where
    last : m < get_or ls f 0 → At ls (rows ls m ++ row ls m) f m
    last q =
        let r = having-at ls m (length ls) f (omega arith) v.0 q in
        let n = length-rows ls m in
        let within : before ls m f < length (having ls m (length ls)) = omega (arith, r.0, length-having ls m (length ls) (omega arith)) in
        let all : length (rows ls m ++ row ls m) ≡ below ls m (length ls) + before ls m (length ls) = length-append (rows ls m) (row ls m) ∙ ap (λ k. k + length (row ls m)) n ∙ ap (λ k. below ls m (length ls) + k) (length-row ls m) in (
          omega (arith, r.0, all),
          λ d. ap (λ k. get_or (rows ls m ++ row ls m) (k + before ls m f) d) (sym n) ∙ get_or-append-add (rows ls m) (row ls m) (before ls m f) d
              ∙ get_or-map (λ g. place m g) (having ls m (length ls)) (before ls m f) 0 d within ∙ ap (place m) r.1,
        )

    earlier : At ls (rows ls m) f o → At ls (rows ls m ++ row ls m) f o
    earlier r = (
      omega (arith, r.0, length-append (rows ls m) (row ls m)),
      λ d. get_or_append_left (rows ls m) (row ls m) d (rank ls f o) r.0 ∙ r.1 d,
    )

-- each place of the first m octets is one of an octet
rows-find : (ls : List ℕ) (m k : ℕ) → k < below ls m (length ls) → (f : ℕ) × (o : ℕ) × IsOctet ls f o × (rank ls f o ≡ k)
rows-find ls zero k l = absurd (omega (arith, l, below-zero ls (length ls)))
rows-find ls (suc m) k l =
    elim (cases_lt k (below ls m (length ls))) [
      | inl t ↦ rows-find ls m k t
      | inr t ↦
          let r = having-find ls m (length ls) (k - below ls m (length ls)) (omega arith) (omega (arith, l, t, below-next ls m (length ls))) in
          (r.0, m, (r.1, r.2), omega (arith, r.3, t))
    ]

below-sum : (ls : List ℕ) → below ls (fold max 0 ls) (length ls) ≡ sum ls
below-sum ls = below-all ls (fold max 0 ls) (length ls) (omega arith) (below_max ls 0) ∙ ap sum (take_all (length ls) ls (omega arith))

-- the robust order has as many places as there are octets
pub length-robust : (ls : List ℕ) → length (robust_order ls) ≡ sum ls
length-robust ls = length-rows ls (fold max 0 ls) ∙ below-sum ls

-- the octet that stands at a rank
pub rank-stands : (ls : List ℕ) (f o : ℕ) → IsOctet ls f o → (d : Place) → get_or (robust_order ls) (rank ls f o) d ≡ place o f
rank-stands ls f o v = (rows-at ls (fold max 0 ls) f o v (omega (arith, v.1, below_max ls 0 f v.0))).1

pub rank-below : (ls : List ℕ) (f o : ℕ) → IsOctet ls f o → rank ls f o < sum ls
rank-below ls f o v = omega (arith, (rows-at ls (fold max 0 ls) f o v (omega (arith, v.1, below_max ls 0 f v.0))).0, length-robust ls)

-- each place of the robust order is one of an octet
pub rank-find : (ls : List ℕ) (k : ℕ) → k < sum ls → (f : ℕ) × (o : ℕ) × IsOctet ls f o × (rank ls f o ≡ k)
rank-find ls k l = rows-find ls (fold max 0 ls) k (omega (arith, l, below-sum ls))

-- two octets with one rank are one
pub rank-one : (ls : List ℕ) (f o g q : ℕ) → IsOctet ls f o → IsOctet ls g q → rank ls f o ≡ rank ls g q → (f ≡ g) × (o ≡ q)
rank-one ls f o g q v w e =
    let d = place 0 0 in
    let same : place o f ≡ place q g = sym (rank-stands ls f o v d) ∙ ap (λ k. get_or (robust_order ls) k d) e ∙ rank-stands ls g q w d in
    (ap (λ (p : Place). p.frame) same, ap (λ (p : Place). p.octet) same)

-- an octet's place in the robust order is its rank
pub robust-rank : (ls : List ℕ) (f o : ℕ) → IsOctet ls f o → robust_place ls f o ≡ rank ls f o
robust-rank ls f o v =
    let order = robust_order ls in
    let d = place 0 0 in
    let long = length-robust ls in
    let under = rank-below ls f o v in
    prefix_len_is (λ p. not (is_place o f p)) order (rank ls f o) d (omega (arith, long, under))
    (λ k l. ap not (other k l))
    (λ l. ap (λ p. not (is_place o f p)) (rank-stands ls f o v d) ∙ ap not itself)
  where
    itself : is_place o f (place o f) ≡ true
    itself = rw (eq-eqb o o refl, eq-eqb f f refl) refl

    differs : (k g q : ℕ) → k < rank ls f o → IsOctet ls g q → rank ls g q ≡ k → is_place o f (place q g) ≡ false
    differs k g q l w e = false_from_ne_true (is_place o f (place q g)) (λ t.
        let both = and_parts (eqb q o) (eqb g f) t in
        let same : rank ls g q ≡ rank ls f o = ap (λ x. rank ls x q) (eqb-true g f both.1) ∙ ap (rank ls f) (eqb-true q o both.0) in
        omega (arith, l, e, same))

    other : (k : ℕ) → k < rank ls f o → is_place o f (get_or (robust_order ls) k (place 0 0)) ≡ false
    other k l =
        let r = rank-find ls k (omega (arith, l, rank-below ls f o v)) in
        ap (λ x. is_place o f (get_or (robust_order ls) x (place 0 0))) (sym r.3) ∙ ap (is_place o f) (rank-stands ls r.0 r.1 r.2 (place 0 0)) ∙ differs k r.0 r.1 l r.2 r.3
