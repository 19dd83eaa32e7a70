-- The packets of groups and of the rest behind them fit one another and carry all blocks.
use Rattle.std.proofs.Common.{◌≡◌, ℕ, zero, suc, ◌+◌, ◌-◌, ◌*◌, ◌/◌, ◌%◌, ◌<◌, ◌≤◌, min, max, false, cond, List, [], ◌∷◌, ◌++◌, map, sym, refl, ap, ◌∙◌, subst, arith, inl, inr, ◌⊎◌}
use Rattle.std.specs.Prelude.{nat_eq}
use Rattle.std.specs.List.{range_with_len, AllByRecursion}
use Rattle.std.proofs.lemmas.Bool.{cases_lt}
use Rattle.std.proofs.lemmas.Nat.{le-div, div-mul-add, mod-mul-add, div_below, mod_below, div-add-mod'}
use Rattle.std.proofs.Math.Nat.{div-mul-le_self, mul-le-mul_left}
use Rattle.amr_bits.proofs.Lists.{all_append}
use Rattle.sending_laws.proofs.Portioned.{IsPart, all_map, begun_parts}
use Rattle.return_laws.proofs.Pieces.{among_range, piece_below}
use Rattle.return_laws.proofs.Fitting.{Fits, last_of}
use Rattle.return_laws.specs.Carrying.{Among, Carries}
use Rattle.spec_sending.specs.declared.plan.SendPlan.{SendPlan}
use Rattle.spec_sending.specs.Portions.{Portion, grouped, piece_at, pieces, rest_at, rests, turn_at, turns}

-- portions that begin at block 0 and fit one another
abbrev pub Starts : ℕ → ℕ → List Portion → Type 0
Starts w r [] = Unit {0}
Starts w r (p ∷ ps) = (p.first ≡ 0) × Fits w r (last_of p) ps

pred_times : (n l : ℕ) → 1 ≤ n → (n - 1) * l + l ≡ n * l
pred_times zero l h = absurd (omega arith)
pred_times (suc n) l h = let e : suc n - 1 ≡ n = omega arith in ap (λ k. k * l + l) e ∙ omega arith

-- the number after i in groups of l
pub next_in : (i l : ℕ) → i % l + 1 < l → ((i + 1) / l ≡ i / l) × ((i + 1) % l ≡ i % l + 1)
next_in i l h =
    let same : i + 1 ≡ i / l * l + (i % l + 1) = (let e = div-add-mod' i l in omega (arith, e)) in (
      ap (λ n. n / l) same ∙ div-mul-add (i / l) l (i % l + 1) h,
      ap (λ n. n % l) same
          ∙ mod-mul-add (i / l) l (i % l + 1) h,
    )

pub next_over : (i l : ℕ) → 1 ≤ l → i % l + 1 ≡ l → ((i + 1) / l ≡ i / l + 1) × ((i + 1) % l ≡ 0)
next_over i l one h =
    let same : i + 1 ≡ (i / l + 1) * l + 0 = (let e = div-add-mod' i l in omega (arith, e)) in
    (ap (λ n. n / l) same ∙ div-mul-add (i / l + 1) l 0 one, ap (λ n. n % l) same ∙ mod-mul-add (i / l + 1) l 0 one)

-- h is the last block before turn i: the end of the group before, or the block before the turn's last
abbrev Before : SendPlan → ℕ → ℕ → Type 0
Before s i h =
    ((i % s.length ≡ 0) × (h + 1 ≡ i / s.length * (s.blocks * s.length))) ⊎
    ((1 ≤ i % s.length) × (h + 1 ≡ last_of (turn_at s i)))

next_before : (s : SendPlan) (i : ℕ) → 1 ≤ s.blocks → 1 ≤ s.length → Before s (i + 1) (last_of (turn_at s i))
next_before s i n l =
    let k = mod_below i s.length l in
    let t = pred_times s.blocks s.length n in
    elim (cases_lt (i % s.length + 1) s.length) [
      | inl lt ↦
          let e = next_in i s.length lt in
          let f = ap (λ z. z * (s.blocks * s.length)) e.0 in let g = e.1 in
          inr (omega (arith, g), omega (arith, f, g))
      | inr le ↦
          let e = next_over i s.length l (omega arith) in
          let f = ap (λ z. z * (s.blocks * s.length)) e.0 in let g = e.1 in
          inl (g, omega (arith, f, t, k))
    ]

fits_turns : (s : SendPlan) (w r a n h : ℕ) (ps : List Portion) → 1 ≤ s.blocks → 1 ≤ s.length
    → s.blocks * s.length ≤ w → s.blocks * s.length ≤ r → Before s a h
    → ((z : ℕ) → Before s (a + n) z → Fits w r z ps) → Fits w r h (map (turn_at s) (range_with_len a n) ++ ps)
fits_turns s w r a zero h ps one l nw nr b k = let same : a ≡ a + 0 = omega arith in
    k h (subst (λ i. Before s i h) same b)
fits_turns s w r a (suc n) h ps one l nw nr b k =
    let m = mod_below a s.length l in
    let t = pred_times s.blocks s.length one in
    let last = last_of (turn_at s a) in
    let low : h < last =
    elim b [ inl e ↦ (let x = e.0 in let y = e.1 in omega (arith, t)) | inr e ↦ (let y = e.1 in omega arith) ] in
    let high : last < h + s.blocks * s.length + 1 =
    elim b [
      | inl e ↦ (let x = e.0 in let y = e.1 in omega (arith, t, m))
      | inr e ↦
          (let y = e.1 in omega (arith, t))
    ] in
    let same : max h last ≡ last = omega arith in
    let far : a + suc n ≡ a + 1 + n = omega arith in (
      omega (arith, t, low),
      omega (arith, high),
      subst (λ z. Fits w r z (map (turn_at s) (range_with_len (a + 1) n) ++ ps)) (sym same)
          (fits_turns s w r (a + 1) n last ps one l nw nr (next_before s a one l)
          (λ z c. k z (subst (λ i. Before s i z) (sym far) c))),
    )

-- the rest behind the groups
fits_rests : (s : SendPlan) (m w r a n h : ℕ) → 1 ≤ s.blocks → s.blocks ≤ w → s.blocks ≤ r
    → (0 < n → h + 1 ≡ grouped s m + a * s.blocks) → ((i : ℕ) → a ≤ i → i < a + n → grouped s m + i * s.blocks < m)
    → Fits w r h (map (rest_at s m) (range_with_len a n))
fits_rests s m w r a zero h one nw nr b k = tt
fits_rests s m w r a (suc n) h one nw nr b k =
    let at = b (omega arith) in
    let here = k a (omega arith) (omega arith) in
    let last = last_of (rest_at s m a) in
    let is : last + 1 ≡ min (grouped s m + a * s.blocks + s.blocks) m = omega arith in
    let same : max h last ≡ last = omega arith in (
      omega arith,
      omega (arith, is),
      subst (λ z. Fits w r z (map (rest_at s m) (range_with_len (a + 1) n))) (sym same)
          (fits_rests s m w r (a + 1) n last one nw nr
          (λ more. let next = k (a + 1) (omega arith) (omega arith) in omega (arith, is))
          (λ i x y. k i (omega arith) (omega arith))),
    )

-- where the rest begins
rest_below : (s : SendPlan) (m i : ℕ) → 1 ≤ s.blocks → i < pieces s.blocks (m - grouped s m)
    → grouped s m + i * s.blocks < m
rest_below s m i one l = let p = piece_below s.blocks (m - grouped s m) i one l in omega arith

starts_rests : (s : SendPlan) (m w r n : ℕ) → grouped s m ≡ 0 → 1 ≤ s.blocks → s.blocks ≤ w → s.blocks ≤ r
    → ((i : ℕ) → 0 ≤ i → i < 0 + n → grouped s m + i * s.blocks < m)
    → Starts w r (map (rest_at s m) (range_with_len 0 n))
starts_rests s m w r zero z one nw nr k = tt
starts_rests s m w r (suc n) z one nw nr k =
    let here = k 0 (omega arith) (omega arith) in
    let last = last_of (rest_at s m 0) in
    let is : last + 1 ≡ min (grouped s m + 0 * s.blocks + s.blocks) m = omega arith in (
      omega arith,
      fits_rests s m w r 1 n last one nw nr
          (λ more. let next = k 1 (omega arith) (omega arith) in omega (arith, is))
          (λ i x y. k i (omega arith) (omega arith)),
    )

-- all whole groups stand before the rest
groups_turns : (s : SendPlan) (m : ℕ) → 1 ≤ s.length → (h : ℕ) → Before s (m / (s.blocks * s.length) * s.length) h
    → h + 1 ≡ grouped s m
groups_turns s m l h b =
    let g = m / (s.blocks * s.length) in
    let same : g * s.length ≡ g * s.length + 0 = omega arith in
    let d : g * s.length / s.length ≡ g = ap (λ n. n / s.length) same ∙ div-mul-add g s.length 0 l in
    let e : g * s.length % s.length ≡ 0 = ap (λ n. n % s.length) same ∙ mod-mul-add g s.length 0 l in
    elim b [ inl k ↦ k.1 ∙ ap (λ n. n * (s.blocks * s.length)) d | inr k ↦ (let x = k.0 in absurd (omega (arith, e))) ]

starts_from : (s : SendPlan) (m w r t : ℕ) → t ≡ m / (s.blocks * s.length) * s.length → 1 ≤ s.blocks → 1 ≤ s.length
    → s.blocks * s.length ≤ w → s.blocks * s.length ≤ r
    → Starts w r (map (turn_at s) (range_with_len 0 t) ++ rests s m)
starts_from s m w r zero e one l nw nr =
    let g = m / (s.blocks * s.length) in
    let none : g * s.blocks * s.length ≡ 0 =
    (let z : s.blocks * (g * s.length) ≡ s.blocks * 0 = ap (λ n. s.blocks * n) (sym e) in omega (arith, z)) in
    let nl = mul-le-mul_left s.blocks l in
    starts_rests s m w r (pieces s.blocks (m - grouped s m)) (omega (arith, none)) one (omega (arith, nl))
    (omega (arith, nl)) (λ i x y. rest_below s m i one (omega arith))
starts_from s m w r (suc n) e one l nw nr =
    let nl = mul-le-mul_left s.blocks l in
    let q : 0 / s.length ≡ 0 =
    ap (λ n. n / s.length) (let z : 0 ≡ 0 * s.length + 0 = omega arith in z) ∙ div-mul-add 0 s.length 0 l in
    let qq = ap (λ z. z * (s.blocks * s.length)) q in
    let k : 0 % s.length ≡ 0 =
    ap (λ n. n % s.length) (let z : 0 ≡ 0 * s.length + 0 = omega arith in z) ∙ mod-mul-add 0 s.length 0 l in
    let all : 1 + n ≡ m / (s.blocks * s.length) * s.length = (let x = e in omega (arith, x)) in (
      omega (arith, qq, k),
      fits_turns s w r 1 n (last_of (turn_at s 0)) (rests s m) one l nw nr (next_before s 0 one l)
          (λ z b. fits_rests s m w r 0 (pieces s.blocks (m - grouped s m)) z one (omega (arith, nl)) (omega (arith, nl))
          (λ more. let at = groups_turns s m l z (subst (λ i. Before s i z) all b) in omega (arith, at))
          (λ i x y. rest_below s m i one (omega arith))),
    )

-- the packets of groups and rest begin at block 0 and fit
pub groups_start : (s : SendPlan) (m w r : ℕ) → 1 ≤ s.blocks → 1 ≤ s.length → s.blocks * s.length ≤ w
    → s.blocks * s.length ≤ r → Starts w r (turns s m ++ rests s m)
groups_start s m w r one l nw nr = starts_from s m w r (m / (s.blocks * s.length) * s.length) refl one l nw nr

-- each turn and each rest lies in the blocks
groups_parts_turns : (s : SendPlan) (m : ℕ) → 1 ≤ s.blocks → 1 ≤ s.length → nat_eq s.length 1 ≡ false
    → AllByRecursion (IsPart m) (turns s m)
groups_parts_turns s m one l many =
    subst (λ v. AllByRecursion (IsPart m)
    (cond v (map (piece_at s m) (range_with_len 0 (m / s.blocks))) (turns s m))) many (begun_parts s m one l)

groups_parts_rests : (s : SendPlan) (m : ℕ) → 1 ≤ s.blocks → AllByRecursion (IsPart m) (rests s m)
groups_parts_rests s m one =
    all_map (IsPart m) (rest_at s m) 0 (pieces s.blocks (m - grouped s m))
    (λ i y. let r = rest_below s m i one (omega arith) in record { some = omega arith; inside = λ k v. omega arith })

pub groups_parts : (s : SendPlan) (m : ℕ) → 1 ≤ s.blocks → 1 ≤ s.length → nat_eq s.length 1 ≡ false
    → AllByRecursion (IsPart m) (turns s m ++ rests s m)
groups_parts s m one l many =
    all_append (IsPart m) (turns s m) (rests s m) (groups_parts_turns s m one l many) (groups_parts_rests s m one)

-- each block is carried by a turn or by a rest
among_first : {X : Type 0} (P : X → Type 0) (xs ys : List X) → Among P xs → Among P (xs ++ ys)
among_first P [] ys h = absurd h
among_first P (x ∷ xs) ys (inl h) = inl h
among_first P (x ∷ xs) ys (inr h) = inr (among_first P xs ys h)

among_second : {X : Type 0} (P : X → Type 0) (xs ys : List X) → Among P ys → Among P (xs ++ ys)
among_second P [] ys h = h
among_second P (x ∷ xs) ys h = inr (among_second P xs ys h)

-- block j of a whole group: its group, its packet in the group, and its number in the packet
turn_carries : (s : SendPlan) (m j : ℕ) → 1 ≤ s.blocks → 1 ≤ s.length → j < grouped s m → Among (Carries j) (turns s m)
turn_carries s m j one l u =
    let n = s.blocks * s.length in
    let g = m / n in
    let big : 1 ≤ n = (let nl = mul-le-mul_left s.blocks l in omega (arith, nl)) in
    let d : j / n < g = div_below j n g big u in
    let o = j % n in
    let c : o % s.length < s.length = mod_below o s.length l in
    let t : o / s.length < s.blocks = div_below o s.length s.blocks l (mod_below j n big) in
    let i = j / n * s.length + o % s.length in
    let q : i / s.length ≡ j / n = div-mul-add (j / n) s.length (o % s.length) c in
    let k : i % s.length ≡ o % s.length = mod-mul-add (j / n) s.length (o % s.length) c in
    let a = mul-le-mul_left s.length (let z : j / n + 1 ≤ g = omega arith in z) in
    let whole = div-add-mod' j n in
    let part = div-add-mod' o s.length in
    let qq = ap (λ z. z * n) q in
    among_range (Carries j) (turn_at s) 0 (g * s.length) i (omega arith) (omega (arith, a, c))
    (o / s.length, t, omega (arith, qq, k, whole, part))

rest_carries : (s : SendPlan) (m j : ℕ) → 1 ≤ s.blocks → grouped s m ≤ j → j < m → Among (Carries j) (rests s m)
rest_carries s m j one low l =
    let o = j - grouped s m in
    let i = o / s.blocks in
    let a = div-mul-le_self o s.blocks in
    let whole = div-add-mod' o s.blocks in
    let c = mod_below o s.blocks one in
    let within : i + 1 ≤ pieces s.blocks (m - grouped s m) =
    le-div (i + 1) (m - grouped s m + s.blocks - 1) s.blocks (omega arith) (omega (arith, a)) in
    among_range (Carries j) (rest_at s m) 0 (pieces s.blocks (m - grouped s m)) i (omega arith) (omega arith)
    (o % s.blocks, omega (arith, whole, c), omega (arith, whole))

pub groups_carry : (s : SendPlan) (m j : ℕ) → 1 ≤ s.blocks → 1 ≤ s.length → j < m
    → Among (Carries j) (turns s m ++ rests s m)
groups_carry s m j one l u =
    elim (cases_lt j (grouped s m)) [
      | inl lt ↦ among_first (Carries j) (turns s m) (rests s m) (turn_carries s m j one l lt)
      | inr le ↦ among_second (Carries j) (turns s m) (rests s m) (rest_carries s m j one le u)
    ]
