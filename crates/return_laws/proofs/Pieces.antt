-- Pieces without groups rise, and what is left of them fits where it carries all blocks.
use Rattle.std.proofs.Common.{◌≡◌, ℕ, zero, suc, ◌+◌, ◌-◌, ◌*◌, ◌/◌, ◌<◌, ◌≤◌, min, max, Bool, true, false, List, [], ◌∷◌, map, sym, refl, ap, ◌∙◌, subst, arith, inl, inr}
use Rattle.std.specs.List.{range_with_len, AllByRecursion}
use Rattle.std.proofs.lemmas.Bool.{cases_lt}
use Rattle.std.proofs.lemmas.Nat.{le-div}
use Rattle.std.proofs.Math.Nat.{div-mul-le_self, lt-div-mul-add, mul-le-mul_left}
use Rattle.sending_laws.proofs.Portioned.{IsPart, all_map}
use Rattle.return_laws.proofs.Fitting.{Fits, last_of}
use Rattle.return_laws.specs.Carrying.{Among, Carries}
use Rattle.spec_sending.specs.Left.{left}
use Rattle.spec_sending.specs.declared.plan.SendPlan.{SendPlan}
use Rattle.spec_sending.specs.Portions.{Portion, piece_at, pieces}

-- at most n consecutive blocks, all of them among m
pub record IsRun (m n : ℕ) (p : Portion) : Type 0 where
  pub stride : p.stride ≡ 1
  pub some : 1 ≤ p.count
  pub most : p.count ≤ n
  pub inside : p.first + p.count ≤ m

-- portions that begin no earlier, and end later, than those before
abbrev pub Rising : ℕ → ℕ → List Portion → Type 0
Rising f l [] = Unit {0}
Rising f l (p ∷ ps) = (f ≤ p.first) × (l ≤ last_of p) × Rising p.first (last_of p + 1) ps

rising_more : (f l g k : ℕ) (ps : List Portion) → g ≤ f → k ≤ l → Rising f l ps → Rising g k ps
rising_more f l g k [] a b h = tt
rising_more f l g k (p ∷ ps) a b h = (let x = h.0 in omega arith, let y = h.1 in omega arith, h.2)

pub rising_left : (f l : ℕ) (vs : List Bool) (ps : List Portion) → Rising f l ps → Rising f l (left vs ps)
rising_left f l [] ps h = tt
rising_left f l (v ∷ vs) [] h = tt
rising_left f l (true ∷ vs) (p ∷ ps) h = (h.0, h.1, rising_left p.first (last_of p + 1) vs ps h.2)
rising_left f l (false ∷ vs) (p ∷ ps) h =
    rising_left f l vs ps (rising_more p.first (last_of p + 1) f l ps h.0 (let y = h.1 in omega arith) h.2)

pub all_left : {X : Type 0} (P : X → Type 0) (vs : List Bool) (xs : List X) → AllByRecursion P xs
    → AllByRecursion P (left vs xs)
all_left P [] xs h = tt
all_left P (v ∷ vs) [] h = tt
all_left P (true ∷ vs) (x ∷ xs) h = (h.0, all_left P vs xs h.1)
all_left P (false ∷ vs) (x ∷ xs) h = all_left P vs xs h.1

-- the last block of a run, and what a run carries
last_run : (m n : ℕ) (p : Portion) → IsRun m n p → last_of p + 1 ≡ p.first + p.count
last_run m n p r = let one = r.some in ap (λ d. p.first + (p.count - 1) * d + 1) r.stride ∙ omega arith

carries_from : (j : ℕ) (p : Portion) → Carries j p → p.first ≤ j
carries_from j p c = let e = c.2 in omega arith

carries_to : (m n j : ℕ) (p : Portion) → IsRun m n p → Carries j p → j < p.first + p.count
carries_to m n j p r c =
    let at : p.first + c.0 * 1 ≡ j = ap (λ d. p.first + c.0 * d) (sym r.stride) ∙ c.2 in
    let l = c.1 in omega arith

pub among_from : (f l j : ℕ) (ps : List Portion) → Rising f l ps → Among (Carries j) ps → f ≤ j
among_from f l j [] h k = absurd k
among_from f l j (p ∷ ps) h (inl c) = let a = carries_from j p c in let b = h.0 in omega arith
among_from f l j (p ∷ ps) h (inr k) = let a = among_from p.first (last_of p + 1) j ps h.2 k in let b = h.0 in
    omega arith

-- the first of what is left carries the next block, or one before it
begins_near : (m n f h : ℕ) (p : Portion) (ps : List Portion) → IsRun m n p → Rising f (h + 1) (p ∷ ps)
    → ((j : ℕ) → h < j → j < m → Among (Carries j) (p ∷ ps)) → p.first ≤ h + 1
begins_near m n f h p ps r u k =
    elim (cases_lt (h + 1) m) [
      | inl l ↦ elim
          (k (h + 1) (omega arith) l) [
            | inl c ↦ carries_from (h + 1) p c
            | inr a ↦ among_from p.first (last_of p + 1)
                (h + 1) ps u.2 a
          ]
      | inr l ↦ (let i = r.inside in let s = r.some in omega arith)
    ]

-- runs that rise and carry all blocks past h fit behind h
pub fits_runs : (w reach m n f h : ℕ) (ps : List Portion) → n ≤ w → n ≤ reach → AllByRecursion (IsRun m n) ps
    → Rising f (h + 1) ps
    → ((j : ℕ) → h < j → j < m → Among (Carries j) ps) → Fits w reach h ps
fits_runs w reach m n f h [] nw nr r u k = tt
fits_runs w reach m n f h (p ∷ ps) nw nr r u k =
    let run = r.0 in
    let near = begins_near m n f h p ps run u k in
    let last = last_run m n p run in
    let many = run.most in
    let up = u.1 in
    let same : max h (last_of p) ≡ last_of p = omega arith in
    let rest = fits_runs w reach m n p.first (last_of p) ps nw nr r.1 u.2
    (λ j a b. elim
    (k j (omega arith) b) [ inl c ↦ (let t = carries_to m n j p run c in absurd (omega arith)) | inr t ↦ t ]) in
    (omega arith, omega arith, subst (λ z. Fits w reach z ps) (sym same) rest)

-- the first of runs that carry all blocks begins at block 0
pub begins_at_0 : (m l : ℕ) (p : Portion) (ps : List Portion) → Rising 0 l (p ∷ ps) → Among (Carries 0) (p ∷ ps)
    → p.first ≡ 0
begins_at_0 m l p ps u (inl c) = let a = carries_from 0 p c in omega arith
begins_at_0 m l p ps u (inr k) = let a = among_from p.first (last_of p + 1) 0 ps u.2 k in omega arith

-- a run lies in the blocks
pub run_part : (m n : ℕ) (p : Portion) → IsRun m n p → IsPart m p
run_part m n p r = record {
  some = r.some;
  inside = λ k l. subst (λ d. p.first + k * d < m) (sym r.stride) (let i = r.inside in omega arith);
}

pub run_parts : (m n : ℕ) (ps : List Portion) → AllByRecursion (IsRun m n) ps → AllByRecursion (IsPart m) ps
run_parts m n [] h = tt
run_parts m n (p ∷ ps) h = (run_part m n p h.0, run_parts m n ps h.1)

-- the pieces of m blocks
pub piece_below : (n m i : ℕ) → 1 ≤ n → i < pieces n m → i * n < m
piece_below n m i one l =
    let a = div-mul-le_self (m + n - 1) n in
    let b = mul-le-mul_left n (let s : i + 1 ≤ pieces n m = omega arith in s) in
    omega (arith, a, b)

pub piece_run : (s : SendPlan) (m i : ℕ) → 1 ≤ s.blocks → i * s.blocks < m
    → IsRun m (s.blocks + s.repeat) (piece_at s m i)
piece_run s m i one l = record { stride = refl; some = omega arith; most = omega arith; inside = omega arith }

piece_last : (s : SendPlan) (m i : ℕ) → 1 ≤ s.blocks → i * s.blocks < m
    → last_of (piece_at s m i) + 1 ≡ min (i * s.blocks + s.blocks) m
piece_last s m i one l = omega arith

rising_pieces : (s : SendPlan) (m a n f l : ℕ) → 1 ≤ s.blocks → f ≤ a * s.blocks - s.repeat
    → l ≤ min (a * s.blocks) m → ((i : ℕ) → a ≤ i → i < a + n → i * s.blocks < m)
    → Rising f l (map (piece_at s m) (range_with_len a n))
rising_pieces s m a zero f l one x y k = tt
rising_pieces s m a (suc n) f l one x y k =
    let here = k a (omega arith) (omega arith) in
    let last = piece_last s m a one here in (
      x,
      omega arith,
      rising_pieces s m (a + 1) n (a * s.blocks - s.repeat) (last_of (piece_at s m a) + 1) one (omega arith)
          (omega arith) (λ i b c. k i (omega arith) (omega arith)),
    )

pub pieces_rise : (s : SendPlan) (m : ℕ) → 1 ≤ s.blocks
    → Rising 0 0 (map (piece_at s m) (range_with_len 0 (pieces s.blocks m)))
pieces_rise s m one =
    rising_pieces s m 0 (pieces s.blocks m) 0 0 one (omega arith) (omega arith)
    (λ i a l. piece_below s.blocks m i one (omega arith))

pub pieces_run : (s : SendPlan) (m : ℕ) → 1 ≤ s.blocks
    → AllByRecursion (IsRun m (s.blocks + s.repeat)) (map (piece_at s m) (range_with_len 0 (pieces s.blocks m)))
pieces_run s m one =
    all_map (IsRun m (s.blocks + s.repeat)) (piece_at s m) 0 (pieces s.blocks m)
    (λ i l. piece_run s m i one (piece_below s.blocks m i one (omega arith)))

-- each block is carried by a piece
pub among_range : {X : Type 0} (P : X → Type 0) (f : ℕ → X) (a n i : ℕ) → a ≤ i → i < a + n → P (f i)
    → Among P (map f (range_with_len a n))
among_range P f a zero i l u h = absurd (omega arith)
among_range P f a (suc n) i l u h =
    elim (cases_lt a i) [
      | inl lt ↦ inr (among_range P f (a + 1) n i (omega arith) (omega arith) h)
      | inr le ↦ (let same : i ≡ a = omega arith in inl (subst (λ j. P (f j)) same h))
    ]

pub pieces_carry : (s : SendPlan) (m j : ℕ) → 1 ≤ s.blocks → j < m
    → Among (Carries j) (map (piece_at s m) (range_with_len 0 (pieces s.blocks m)))
pieces_carry s m j one l =
    let i = j / s.blocks in
    let low = div-mul-le_self j s.blocks in
    let high = lt-div-mul-add {a = j} {b = s.blocks} (omega arith) in
    let first = i * s.blocks - s.repeat in
    let within : i + 1 ≤ pieces s.blocks m =
    le-div (i + 1) (m + s.blocks - 1) s.blocks (omega arith) (omega (arith, low)) in
    among_range (Carries j) (piece_at s m) 0 (pieces s.blocks m) i (omega arith) (omega arith)
    (j - first, omega (arith, low, high), omega (arith, low))
