-- The mode desk: what its mode keeps to.
use Rattle.std.proofs.Common.{◌≡◌, ◌≢◌, ℕ, ◌+◌, ◌%◌, ◌<◌, ◌≤◌, ◌⊎◌, inl, inr, ⊎_elim, min, max, Bool, true, false, cond, ◌||◌, nat_eq, nat_lt, nat_le, List, [], ◌∷◌, ◌++◌, filter, fold, sym, refl, ap, ◌∙◌, arith, subst, eqb-true, eq-eqb, ltb-true, ltb-false, lt-ltb, le_of_lt, zero-add}
use Rattle.std.specs.List.{AllByRecursion}
use Rattle.std.proofs.lemmas.Bool.{cases_lt}
use Rattle.std.proofs.lemmas.List.Sums.{fold-append}
use Rattle.media_laws.specs.Between.{IsBetween}
use Rattle.spec_modes.specs.Desk.{Desk, DeskPlan, Event, Hear, IsDeskPlan, Step, after, aimed, desk, fresh, greatest_or, may_move, steps_in, toward}
use Rattle.spec_modes.specs.ModeSets.{has}
use Rattle.spec_modes.specs.Requests.{request_in}
use Rattle.spec_modes.specs.declared.request.Request.{Request}
use Rattle.spec_modes.specs.declared.request.Request.TheVariants as request

module _ {X : Type 0} where
  pub all_map : (P Q : X → Type 0) → ((x : X) → P x → Q x) → (xs : List X) → AllByRecursion P xs → AllByRecursion Q xs
  all_map P Q f [] h = tt
  all_map P Q f (x ∷ xs) h = (f x h.0, all_map P Q f xs h.1)

  kept_by : (P : X → Type 0) (test : X → Bool) (x : X) (xs : List X) (t : Bool) → test x ≡ t → P x → AllByRecursion P (filter test xs) → AllByRecursion P (cond t (x ∷ filter test xs) (filter test xs))
  kept_by P test x xs true e h k = (h, k)
  kept_by P test x xs false e h k = k

  pub all_filter : (P : X → Type 0) (test : X → Bool) (xs : List X) → AllByRecursion P xs → AllByRecursion P (filter test xs)
  all_filter P test [] h = tt
  all_filter P test (x ∷ xs) h = kept_by P test x xs (test x) refl h.0 (all_filter P test xs h.1)

  -- what a filter leaves passes its test
  passing : (test : X → Bool) (x : X) (xs : List X) (t : Bool) → test x ≡ t → AllByRecursion (λ y. test y ≡ true) (filter test xs) → AllByRecursion (λ y. test y ≡ true) (cond t (x ∷ filter test xs) (filter test xs))
  passing test x xs true e k = (e, k)
  passing test x xs false e k = k

  pub all_pass : (test : X → Bool) (xs : List X) → AllByRecursion (λ x. test x ≡ true) (filter test xs)
  all_pass test [] = tt
  all_pass test (x ∷ xs) = passing test x xs (test x) refl (all_pass test xs)

or_true : (a b : Bool) → b ≡ true → (a || b) ≡ true
or_true true b e = refl
or_true false b e = e

-- each of a list is among it
all_among : (modes : List ℕ) → AllByRecursion (λ m. has modes m ≡ true) modes
all_among [] = tt
all_among (m ∷ modes) = (
  (λ i. eq-eqb m m refl i || has modes m),
  all_map (λ x. has modes x ≡ true) (λ x. has (m ∷ modes) x ≡ true) (λ x h. or_true (nat_eq m x) (has modes x) h) modes (all_among modes),
)

-- what holds of all of a list holds of each that is among it
of_head : (P : ℕ → Type 0) (x m : ℕ) (rest : Bool) (t : Bool) → nat_eq x m ≡ t → P x → (rest ≡ true → P m) → (t || rest) ≡ true → P m
of_head P x m rest true e px behind h = subst P (eqb-true x m e) px
of_head P x m rest false e px behind h = behind h

of_among : (P : ℕ → Type 0) (xs : List ℕ) (m : ℕ) → AllByRecursion P xs → has xs m ≡ true → P m
of_among P [] m h e = absurd (cc e)
of_among P (x ∷ xs) m h e = of_head P x m (has xs m) (nat_eq x m) refl h.0 (of_among P xs m h.1) e

-- the least and the greatest of a list and one more
module _ (P : ℕ → Type 0) where
  of_either : (a b c : ℕ) → (c ≡ a) ⊎ (c ≡ b) → P a → P b → P c
  of_either a b c (inl e) p q = subst P (sym e) p
  of_either a b c (inr e) p q = subst P (sym e) q

  of_picked : (pick : ℕ → ℕ → ℕ) → ((a b : ℕ) → (pick a b ≡ a) ⊎ (pick a b ≡ b)) → (d : ℕ) (xs : List ℕ)
      → P d → AllByRecursion P xs → P (fold pick d xs)
  of_picked pick is d [] p h = p
  of_picked pick is d (x ∷ xs) p h = of_picked pick is (pick d x) xs (of_either d x (pick d x) (is d x) p h.0) h.1

least_is : (a b : ℕ) → (min a b ≡ a) ⊎ (min a b ≡ b)
least_is a b = ⊎_elim (λ l. inl (omega arith)) (λ l. inr (omega arith)) (cases_lt a b)

greatest_is : (a b : ℕ) → (max a b ≡ a) ⊎ (max a b ≡ b)
greatest_is a b = ⊎_elim (λ l. inr (omega arith)) (λ l. inl (omega arith)) (cases_lt a b)

of_least : (P : ℕ → Type 0) (d : ℕ) (xs : List ℕ) → P d → AllByRecursion P xs → P (fold min d xs)
of_least P = of_picked P min least_is

of_greatest : (P : ℕ → Type 0) (d : ℕ) (xs : List ℕ) → P d → AllByRecursion P xs → P (fold max d xs)
of_greatest P = of_picked P max greatest_is

-- a bound of a list and one more
least_below : (d : ℕ) (xs : List ℕ) → (fold min d xs ≤ d) × AllByRecursion (λ x. fold min d xs ≤ x) xs
least_below d [] = (omega arith, tt)
least_below d (x ∷ xs) = let k = least_below (min d x) xs in (omega (arith, k.0), (omega (arith, k.0), k.1))

greatest_above : (d : ℕ) (xs : List ℕ) → (d ≤ fold max d xs) × AllByRecursion (λ x. x ≤ fold max d xs) xs
greatest_above d [] = (omega arith, tt)
greatest_above d (x ∷ xs) = let k = greatest_above (max d x) xs in (omega (arith, k.0), (omega (arith, k.0), k.1))

-- one that is among a list and passes a test is among what the filter leaves
among_filter : (test : ℕ → Bool) (xs : List ℕ) (m : ℕ) → test m ≡ true → has xs m ≡ true → has (filter test xs) m ≡ true
among_filter test [] m t e = absurd (cc e)
among_filter test (x ∷ xs) m t e = by (nat_eq x m) (test x) refl refl e (among_filter test xs m t)
  where
    by : (same passed : Bool) → nat_eq x m ≡ same → test x ≡ passed → (same || has xs m) ≡ true → (has xs m ≡ true → has (filter test xs) m ≡ true)
        → has (cond passed (x ∷ filter test xs) (filter test xs)) m ≡ true
    by true true is pass h behind = λ i. is i || has (filter test xs) m
    by true false is pass h behind = absurd (cc (sym pass ∙ ap test (eqb-true x m is) ∙ t))
    by false passed is pass h behind = skip passed (behind h)
      where
        skip : (u : Bool) → has (filter test xs) m ≡ true → has (cond u (x ∷ filter test xs) (filter test xs)) m ≡ true
        skip true k = or_true (nat_eq x m) (has (filter test xs) m) k
        skip false k = k

-- the target and the mode are in the set
record Keeps (plan : DeskPlan) (d : Desk) : Type 0 where
  mode : has plan.modes d.mode ≡ true
  target : has plan.modes d.target ≡ true

module _ (plan : DeskPlan) where
  abbrev In : ℕ → Type 0
  In m = has plan.modes m ≡ true

  left_in : (test : ℕ → Bool) → AllByRecursion In (filter test plan.modes)
  left_in test = all_filter In test plan.modes (all_among plan.modes)

  greatest_in : (target : ℕ) (xs : List ℕ) → In target → AllByRecursion In xs → In (greatest_or target xs)
  greatest_in target [] t h = t
  greatest_in target (x ∷ xs) t h = of_greatest In x xs h.0 h.1

  aimed_in : (target : ℕ) (asked : Request) → In target → In (aimed plan.modes target asked)
  aimed_in target (request.Mode x) t = greatest_in target (filter (λ m. nat_le m x) plan.modes) t (left_in (λ m. nat_le m x))
  aimed_in target request.None t = t
  aimed_in target request.Ignored t = t

  toward_in : (mode target : ℕ) → In target → In (toward plan.modes mode target)
  toward_in mode target t = by (nat_lt mode target)
    where
      by : (b : Bool) → In (cond b (fold min target (filter (λ m. nat_lt mode m) plan.modes)) (fold max target (filter (λ m. nat_lt m mode) plan.modes)))
      by true = of_least In target (filter (λ m. nat_lt mode m) plan.modes) t (left_in (λ m. nat_lt mode m))
      by false = of_greatest In target (filter (λ m. nat_lt m mode) plan.modes) t (left_in (λ m. nat_lt m mode))

  either_in : (b : Bool) (x y : ℕ) → In x → In y → In (cond b x y)
  either_in true x y p q = p
  either_in false x y p q = q

  keeps_after : (d : Desk) (event : Event) → Keeps plan d → Keeps plan (after plan d event)
  keeps_after d (Hear cmr) k = record { mode = k.mode; target = aimed_in d.target (request_in plan.codec cmr) k.target }
  keeps_after d Step k = record {
    mode = either_in (may_move plan d) (cond plan.neighbor (toward plan.modes d.mode d.target) d.target) d.mode
        (either_in plan.neighbor (toward plan.modes d.mode d.target) d.target (toward_in d.mode d.target k.target) k.target) k.mode;
    target = k.target;
  }

  keeps_all : (d : Desk) (events : List Event) → Keeps plan d → Keeps plan (fold (after plan) d events)
  keeps_all d [] k = k
  keeps_all d (e ∷ events) k = keeps_all (after plan d e) events (keeps_after d e k)

  keeps : (events : List Event) → IsDeskPlan plan → Keeps plan (desk plan events)
  keeps events k = keeps_all (fresh plan) events (record { mode = k.start; target = k.start })

pub mode_in : (plan : DeskPlan) (events : List Event) → IsDeskPlan plan → has plan.modes (desk plan events).mode ≡ true
mode_in plan events k = (keeps plan events k).mode

pub target_in : (plan : DeskPlan) (events : List Event) → IsDeskPlan plan → has plan.modes (desk plan events).target ≡ true
target_in plan events k = (keeps plan events k).target

-- a desk counts its steps
counted : (plan : DeskPlan) (d : Desk) (events : List Event) → (fold (after plan) d events).steps ≡ d.steps + steps_in events
counted plan d [] = omega arith
counted plan d (Hear cmr ∷ events) = counted plan (after plan d (Hear cmr)) events
counted plan d (Step ∷ events) = omega (arith, counted plan (after plan d Step) events)

one_more : (plan : DeskPlan) (events : List Event) (event : Event) → desk plan (events ++ event ∷ []) ≡ after plan (desk plan events) event
one_more plan events event = fold-append (after plan) (fresh plan) events (event ∷ [])

moves : (plan : DeskPlan) (d : Desk) (event : Event) → (after plan d event).mode ≢ d.mode → (event ≡ Step) × (d.steps % plan.period ≡ 0)
moves plan d (Hear cmr) moved = absurd (moved refl)
moves plan d Step moved = by (may_move plan d) refl
  where
    by : (b : Bool) → may_move plan d ≡ b → (Step ≡ Step) × (d.steps % plan.period ≡ 0)
    by true e = (refl, eqb-true (d.steps % plan.period) 0 e)
    by false e = absurd (moved (ap (λ b. cond b (cond plan.neighbor (toward plan.modes d.mode d.target) d.target) d.mode) e))

pub moves_at : (plan : DeskPlan) (events : List Event) (event : Event) → (desk plan (events ++ event ∷ [])).mode ≢ (desk plan events).mode → (event ≡ Step) × (steps_in events % plan.period ≡ 0)
moves_at plan events event moved =
    let k = moves plan (desk plan events) event (λ e. moved (ap (λ d. d.mode) (one_more plan events event) ∙ e)) in
    let all : (desk plan events).steps ≡ steps_in events = counted plan (fresh plan) events ∙ zero-add (steps_in events) in
    (k.0, ap (λ n. n % plan.period) (sym all) ∙ k.1)

-- towards the target no mode is passed
none_passed : (modes : List ℕ) (mode target m : ℕ) → has modes m ≡ true → IsBetween mode (toward modes mode target) m → ⊥
none_passed modes mode target m h = by (nat_lt mode target) refl
  where
    by : (b : Bool) → nat_lt mode target ≡ b → IsBetween mode (cond b (fold min target (filter (λ x. nat_lt mode x) modes)) (fold max target (filter (λ x. nat_lt x mode) modes))) m → ⊥
    by true e (inl k) = let above = of_among (λ x. fold min target (filter (λ y. nat_lt mode y) modes) ≤ x) (filter (λ x. nat_lt mode x) modes) m
        (least_below target (filter (λ x. nat_lt mode x) modes)).1 (among_filter (λ x. nat_lt mode x) modes m (lt-ltb mode m k.0) h) in omega arith
    by true e (inr k) = let over = of_least (λ x. mode < x) target (filter (λ x. nat_lt mode x) modes) (ltb-true mode target e)
        (all_map (λ x. nat_lt mode x ≡ true) (λ x. mode < x) (λ x t. ltb-true mode x t) (filter (λ x. nat_lt mode x) modes) (all_pass (λ x. nat_lt mode x) modes)) in omega (arith, over, k)
    by false e (inl k) = let under = of_greatest (λ x. x ≤ mode) target (filter (λ x. nat_lt x mode) modes) (ltb-false mode target e)
        (all_map (λ x. nat_lt x mode ≡ true) (λ x. x ≤ mode) (λ x t. le_of_lt (ltb-true x mode t)) (filter (λ x. nat_lt x mode) modes) (all_pass (λ x. nat_lt x mode) modes)) in omega (arith, under, k)
    by false e (inr k) = let below = of_among (λ x. x ≤ fold max target (filter (λ y. nat_lt y mode) modes)) (filter (λ x. nat_lt x mode) modes) m
        (greatest_above target (filter (λ x. nat_lt x mode) modes)).1 (among_filter (λ x. nat_lt x mode) modes m (lt-ltb m mode k.1) h) in omega arith

none_at_rest : (a m : ℕ) → IsBetween a a m → ⊥
none_at_rest a m (inl k) = omega (arith, k)
none_at_rest a m (inr k) = omega (arith, k)

passes_none : (plan : DeskPlan) (d : Desk) (event : Event) (m : ℕ) → plan.neighbor ≡ true → has plan.modes m ≡ true → IsBetween d.mode (after plan d event).mode m → ⊥
passes_none plan d (Hear cmr) m n h k = none_at_rest d.mode m k
passes_none plan d Step m n h k = by (may_move plan d) k
  where
    by : (b : Bool) → IsBetween d.mode (cond b (cond plan.neighbor (toward plan.modes d.mode d.target) d.target) d.mode) m → ⊥
    by false k = none_at_rest d.mode m k
    by true k = none_passed plan.modes d.mode d.target m h (subst (λ b. IsBetween d.mode (cond b (toward plan.modes d.mode d.target) d.target) m) n k)

pub to_neighbours : (plan : DeskPlan) (events : List Event) (event : Event) (m : ℕ) → plan.neighbor ≡ true → has plan.modes m ≡ true
    → IsBetween (desk plan events).mode (desk plan (events ++ event ∷ [])).mode m → ⊥
to_neighbours plan events event m n h k = passes_none plan (desk plan events) event m n h (subst (λ d. IsBetween (desk plan events).mode d.mode m) (one_more plan events event) k)
