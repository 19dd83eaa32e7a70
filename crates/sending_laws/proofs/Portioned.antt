-- Portions by the number of blocks: all their blocks are there, and those begun are a front.
use Rattle.std.proofs.Common.{◌≡◌, ℕ, zero, suc, ◌+◌, ◌-◌, ◌*◌, ◌/◌, ◌<◌, ◌≤◌, min, true, false, cond, List, ◌∷◌, ◌++◌, map, sym, refl, ap, ◌∙◌, arith}
use Rattle.std.specs.Prelude.{nat_eq}
use Rattle.std.specs.List.{range_with_len, AllByRecursion}
use Rattle.std.proofs.lemmas.List.{map-append}
use Rattle.std.proofs.lemmas.Nat.{le-div, div_below, mod_below}
use Rattle.std.proofs.Math.Nat.{div-mul-le_self, mul-le-mul_left}
use Rattle.spec_sending.specs.Portions.{Portion, begun_portions, piece_at, pieces, portions, rests, turn_at, turns}
use Rattle.spec_sending.specs.declared.plan.SendPlan.{SendPlan}

-- a front of a list
abbrev pub IsFront : {X : Type 0} → List X → List X → Type 0
IsFront {X} front all = (rest : List X) × (all ≡ front ++ rest)

-- each element that a range gives
pub all_map : {X : Type 0} (P : X → Type 0) (f : ℕ → X) (a n : ℕ)
    → ((k : ℕ) → k < a + n → P (f k)) → AllByRecursion P (map f (range_with_len a n))
all_map P f a zero h = tt
all_map P f a (suc n) h = (h a (omega arith), all_map P f (a + 1) n (λ k i. h k (omega arith)))

-- a range in two parts
range_split : (a n k : ℕ) → range_with_len a (n + k) ≡ range_with_len a n ++ range_with_len (a + n) k
range_split a zero k =
    ap (range_with_len a) (let e : 0 + k ≡ k = omega arith in e)
    ∙ ap (λ b. range_with_len b k) (let e : a ≡ a + 0 = omega arith in e)
range_split a (suc n) k =
    ap (range_with_len a) (let e : suc n + k ≡ suc (n + k) = omega arith in e)
    ∙ ap (λ l. a ∷ l) (range_split (a + 1) n k
    ∙ ap (λ b. range_with_len (a + 1) n ++ range_with_len b k) (let e : a + 1 + n ≡ a + suc n = omega arith in e))

-- equal functions give equal lists
pub map_same : {X : Type 0} (f g : ℕ → X) (a n : ℕ)
    → ((k : ℕ) → k < a + n → f k ≡ g k) → map f (range_with_len a n) ≡ map g (range_with_len a n)
map_same f g a zero h = refl
map_same f g a (suc n) h = λ i. h a (omega arith) i ∷ map_same f g (a + 1) n (λ k l. h k (omega arith)) i

-- a longer range gives more behind the same
map_front : {X : Type 0} (f g : ℕ → X) (n m : ℕ) → n ≤ m → ((i : ℕ) → i < n → f i ≡ g i)
    → IsFront (map f (range_with_len 0 n)) (map g (range_with_len 0 m))
map_front f g n m le h =
    let e : m ≡ n + (m - n) = omega arith in
    let more = map g (range_with_len (0 + n) (m - n)) in (
      more,
      ap (λ k. map g (range_with_len 0 k)) e ∙ ap (map g) (range_split 0 n (m - n))
          ∙ map-append g (range_with_len 0 n) (range_with_len (0 + n) (m - n))
          ∙ ap (λ l. l ++ more) (sym (map_same f g 0 n (λ i l. h i (omega arith)))),
    )

div_grows : (a b n : ℕ) → 1 ≤ n → a ≤ b → a / n ≤ b / n
div_grows a b n one le = let d = div-mul-le_self a n in le-div (a / n) b n one (omega (arith, d))

-- begun portions are a front of all, and of those begun with more blocks
pub begun_front : (s : SendPlan) (m : ℕ) → 1 ≤ s.blocks → IsFront (begun_portions s m) (portions s m)
begun_front s m one =
    elim (nat_eq s.length 1) as (λ v. IsFront
    (cond v (map (piece_at s m) (range_with_len 0 (m / s.blocks))) (turns s m))
    (cond v (map (piece_at s m) (range_with_len 0 (pieces s.blocks m))) (turns s m ++ rests s m))) [
      | true ↦ map_front (piece_at s m) (piece_at s m) (m / s.blocks) (pieces s.blocks m)
          (div_grows m (m + s.blocks - 1) s.blocks one (omega arith)) (λ i l. refl)
      | false ↦ (rests s m, refl)
    ]

pub piece_stays : (s : SendPlan) (m k i : ℕ) → i < m / s.blocks → piece_at s m i ≡ piece_at s (m + k) i
piece_stays s m k i l =
    let d = div-mul-le_self m s.blocks in
    let a = mul-le-mul_left s.blocks (let z : i + 1 ≤ m / s.blocks = omega arith in z) in
    let low = i * s.blocks - s.repeat in
    let x : min (i * s.blocks + s.blocks) m ≡ i * s.blocks + s.blocks = omega (arith, a, d) in
    let y : min (i * s.blocks + s.blocks) (m + k) ≡ i * s.blocks + s.blocks = omega (arith, a, d) in
    ap (λ c. record { first = low; stride = 1; index = 0; count = c - low }) (x ∙ sym y)

pub begun_grows : (s : SendPlan) (m k : ℕ) → 1 ≤ s.blocks → 1 ≤ s.length
    → IsFront (begun_portions s m) (begun_portions s (m + k))
begun_grows s m k one l =
    let n = s.blocks * s.length in
    let big : 1 ≤ n = (let nl = mul-le-mul_left s.blocks l in omega (arith, nl)) in
    let more = mul-le-mul_left s.length (div_grows m (m + k) n big (omega arith)) in
    elim (nat_eq s.length 1) as (λ v. IsFront
    (cond v (map (piece_at s m) (range_with_len 0 (m / s.blocks))) (turns s m))
    (cond v (map (piece_at s (m + k)) (range_with_len 0 ((m + k) / s.blocks))) (turns s (m + k)))) [
      | true ↦ map_front (piece_at s m) (piece_at s (m + k)) (m / s.blocks) ((m + k) / s.blocks)
          (div_grows m (m + k) s.blocks one (omega arith)) (λ i j. piece_stays s m k i j)
      | false ↦ map_front (turn_at s) (turn_at s) (m / n * s.length) ((m + k) / n * s.length)
          (omega (arith, more)) (λ i j. refl)
    ]

-- a portion has blocks, all of them among m
pub record IsPart (m : ℕ) (p : Portion) : Type 0 where
  pub some : 1 ≤ p.count
  pub inside : (k : ℕ) → k < p.count → p.first + k * p.stride < m

piece_part : (s : SendPlan) (m i : ℕ) → 1 ≤ s.blocks → i < m / s.blocks → IsPart m (piece_at s m i)
piece_part s m i one l =
    let d = div-mul-le_self m s.blocks in
    let a = mul-le-mul_left s.blocks (let z : i + 1 ≤ m / s.blocks = omega arith in z) in
    record { some = omega (arith, a, d); inside = λ k v. omega (arith, a, d) }

turn_part : (s : SendPlan) (m i : ℕ) → 1 ≤ s.blocks → 1 ≤ s.length
    → i < m / (s.blocks * s.length) * s.length → IsPart m (turn_at s i)
turn_part s m i one l u =
    let n = s.blocks * s.length in
    let below = div_below i s.length (m / n) l u in
    let row = mul-le-mul_left n (let z : i / s.length + 1 ≤ m / n = omega arith in z) in
    let whole = div-mul-le_self m n in
    let c = mod_below i s.length l in
    record {
      some = one;
      inside = λ k v.
          let a = mul-le-mul_left s.length (let z : k + 1 ≤ s.blocks = omega arith in z) in
          omega (arith, row, whole, a, c);
    }

-- the blocks of begun portions are all there
pub begun_parts : (s : SendPlan) (m : ℕ) → 1 ≤ s.blocks → 1 ≤ s.length → AllByRecursion (IsPart m) (begun_portions s m)
begun_parts s m one l =
    elim (nat_eq s.length 1) as (λ v. AllByRecursion (IsPart m)
    (cond v (map (piece_at s m) (range_with_len 0 (m / s.blocks))) (turns s m))) [
      | true ↦ all_map (IsPart m) (piece_at s m) 0 (m / s.blocks) (λ i x. piece_part s m i one (omega arith))
      | false ↦ all_map (IsPart m) (turn_at s) 0 (m / (s.blocks * s.length) * s.length)
          (λ i x. turn_part s m i one l (omega arith))
    ]
