-- Which plans of receivers are valid, as the definitions of the words say it.
use Rattle.std.proofs.Common.{◌≡◌, ℕ, max, Bool, true, false, ◌&&◌, ◌||◌, ◌<◌, ◌≤◌, nat_eq, nat_le, nat_lt, [], ◌∷◌, Option, None, Some, is_none, option_map, unwrap_or, refl, ap, sym, ◌∙◌, inl, inr, arith, ne_eqb, le-leb, leb-true, ltb-true, lt-ltb}
use Rattle.std.proofs.lemmas.Bool.{and_parts}
use Rattle.amr_cli.specs.Jobs.{received_by}
use Rattle.amr_frame.specs.First.{first, when}
use Rattle.amr_frame.specs.Profiles.{group_bound, profile_fault}
use Rattle.amr_frame.specs.declared.profile.ProfileFault.{ProfileFault}
use Rattle.amr_playout.specs.Plans.{most_together, plan_fault}
use Rattle.amr_playout.specs.declared.plan.Plan.{Plan}
use Rattle.amr_playout.specs.declared.plan.PlanFault.{PlanFault}
use Rattle.amr_playout.specs.declared.plan.PlanFault.TheVariants as fault
use Rattle.spec_jobs.specs.Plans.{is_receivable}
use Rattle.spec_record.specs.Recording.{Recording}

not_over : (a b : ℕ) → b ≤ a → nat_lt a b ≡ false
not_over a b h = by_value (nat_lt a b) refl
  where
    by_value : (v : Bool) → nat_lt a b ≡ v → nat_lt a b ≡ false
    by_value true e = absurd (omega (arith, h, ltb-true a b e))
    by_value false e = e

-- the rules of a plan, and of what may be received, by what they ask of
abbrev fault_by : Option ProfileFault → ℕ → Option ℕ → ℕ → ℕ → Option PlanFault
fault_by pf blocks group window reach = first (
    option_map (λ why. fault.Profile why) pf
    ∷ when (nat_lt window (most_together blocks group) || nat_lt 4096 window) fault.Window
    ∷ when (nat_eq reach 0 || nat_lt 45000 reach) fault.Reach ∷ [])

abbrev holds_by : Option ProfileFault → ℕ → Option ℕ → ℕ → Bool
holds_by pf blocks group window = is_none pf && nat_le blocks window && nat_le (unwrap_or group 0) window

-- what may be received is a valid plan, in the ranges of the words
together : (blocks : ℕ) (group : Option ℕ) (window : ℕ) → blocks ≤ window → unwrap_or group 0 ≤ window → most_together blocks group ≤ window
together blocks None window b g = b
together blocks (Some n) window b g = omega (arith, b, g)

valid : (pf : Option ProfileFault) (blocks : ℕ) (group : Option ℕ) (window reach : ℕ) → window ≤ 4096 → 1 ≤ reach → reach ≤ 45000
    → holds_by pf blocks group window ≡ true → fault_by pf blocks group window reach ≡ None
valid (Some why) blocks group window reach w low high e = absurd cc
valid None blocks group window reach w low high e =
    let parts = and_parts (nat_le blocks window) (nat_le (unwrap_or group 0) window) e in
    let all = together blocks group window (leb-true blocks window parts.0) (leb-true (unwrap_or group 0) window parts.1) in
    let nonzero = ne_eqb reach 0 (λ z. omega (arith, low, z)) in
    let near = not_over 45000 reach high in
    λ i. first (
    when (not_over window (most_together blocks group) all i || not_over 4096 window w i) fault.Window
    ∷ when (nonzero i || near i) fault.Reach ∷ [])

not_valid : (o : Option PlanFault) (why : PlanFault) → o ≡ Some why → o ≡ None → ⊥
not_valid o why e f = cc

never : (b : Bool) → (b ≡ true → ⊥) → b ≡ false
never true h = absurd (h refl)
never false h = refl

-- what a plan that isn't valid records may not be received
pub refused : (p : Plan) (pt : Option ℕ) (why : PlanFault) → p.window ≤ 4096 → 1 ≤ p.reach → p.reach ≤ 45000
    → plan_fault p ≡ Some why → is_receivable (received_by pt p) ≡ false
refused p pt why w low high e =
    let f = p.profile in
    never (holds_by (profile_fault f) f.max_blocks (group_bound f.interleaving) p.window) (λ holds.
    not_valid (plan_fault p) why e (valid (profile_fault f) f.max_blocks (group_bound f.interleaving) p.window p.reach w low high holds))

-- whether there is a value, and which, by whether there is another
pub none_by : {A : Type 0} (b : Bool) (x : A) → None ≡ when b x → b ≡ false
none_by true x e = absurd cc
none_by false x e = refl

pub some_by : {A : Type 0} (b : Bool) (x y : A) → Some y ≡ when b x → (b ≡ true) × (y ≡ x)
some_by true x y e = (refl, cc)
some_by false x y e = absurd cc

-- there is no recording where there is no plan, and the one of the plan where there is one
pub no_recording : (o : Option Plan) (pt : Option ℕ) (r : Recording) → o ≡ None
    → option_map (received_by pt) o ≡ when (is_receivable r) r → is_receivable r ≡ false
no_recording o pt r was e = none_by (is_receivable r) r (sym (ap (option_map (received_by pt)) was) ∙ e)

pub a_recording : (o : Option Plan) (pt : Option ℕ) (r : Recording) (p : Plan) → o ≡ Some p
    → option_map (received_by pt) o ≡ when (is_receivable r) r → (is_receivable r ≡ true) × (received_by pt p ≡ r)
a_recording o pt r p was e = some_by (is_receivable r) r (received_by pt p) (sym (ap (option_map (received_by pt)) was) ∙ e)
