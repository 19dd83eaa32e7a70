-- Plans of receivers: which are valid is this project's own.
use Rattle.std.specs.Prelude.{◌≡◌, ℕ, max, ◌||◌, nat_eq, nat_lt, [], ◌∷◌, Option, Some, None, option_map}
use Rattle.amr_frame.specs.First.{when, first}
use Rattle.amr_frame.specs.Profiles.{group_bound, profile_fault}
use Rattle.amr_playout.specs.declared.plan.Plan.{Plan}
use Rattle.amr_playout.specs.declared.plan.PlanFault.{PlanFault}
use Rattle.amr_playout.specs.declared.plan.PlanFault.TheVariants as fault
use Rattle.spec_session.specs.Session.{Rules, rules_of}

-- what a session goes by under a plan
abbrev pub rules_in : Plan → Rules
rules_in plan = rules_of plan.profile plan.window plan.reach

-- the most blocks that stand together, in a payload or in a group
abbrev pub most_together : ℕ → Option ℕ → ℕ
most_together blocks None = blocks
most_together blocks (Some group) = max blocks group

-- the first rule that a plan breaks: B1 to B6
abbrev pub plan_fault : Plan → Option PlanFault
plan_fault plan =
    let together = most_together plan.profile.max_blocks (group_bound plan.profile.interleaving) in
    first (option_map (λ why. fault.Profile why) (profile_fault plan.profile)
    ∷ when (nat_lt plan.window together || nat_lt 4096 plan.window) fault.Window
    ∷ when (nat_eq plan.reach 0 || nat_lt 45000 plan.reach) fault.Reach ∷ [])

-- a valid plan breaks none
abbrev pub IsPlan : Plan → Type 0
IsPlan plan = plan_fault plan ≡ None
