-- What a valid plan says of its format.
use Rattle.std.proofs.Common.{◌≡◌, ℕ, ◌≤◌, Bool, [], ◌∷◌, refl, sym, subst, arith, Option, Some, None}
use Rattle.std.specs.Prelude.{◌||◌, nat_eq, nat_lt, option_map}
use Rattle.amr_playout.proofs.Plans.{facts}
use Rattle.amr_frame.specs.First.{when, first}
use Rattle.amr_frame.specs.Profiles.{IsValid, group_bound, profile_fault}
use Rattle.amr_frame.specs.declared.profile.ProfileFault.{ProfileFault}
use Rattle.amr_playout.specs.Plans.{IsPlan, most_together}
use Rattle.amr_playout.specs.declared.plan.Plan.{Plan}
use Rattle.amr_playout.specs.declared.plan.PlanFault.TheVariants as fault

none_first : (o : Option ProfileFault) (b c : Bool) → first (option_map (λ why. fault.Profile why) o ∷ when b fault.Window ∷ when c fault.Reach ∷ []) ≡ None → o ≡ None
none_first None b c e = refl
none_first (Some why) b c e = absurd cc

-- a valid plan has a valid format
pub format_valid : (plan : Plan) → IsPlan plan → IsValid plan.profile
format_valid plan e =
    none_first (profile_fault plan.profile)
    (nat_lt plan.window (most_together plan.profile.max_blocks (group_bound plan.profile.interleaving)) || nat_lt 4096 plan.window)
    (nat_eq plan.reach 0 || nat_lt 45000 plan.reach) e

-- its channels are from 1 to 6
pub channels_within : (plan : Plan) → IsPlan plan → (1 ≤ plan.profile.channels) × (plan.profile.channels ≤ 6)
channels_within plan e = let f = facts plan e in (f.some, f.few)
