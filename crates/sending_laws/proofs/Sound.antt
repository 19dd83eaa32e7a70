-- What a valid plan has.
use Rattle.std.proofs.Common.{◌≡◌, refl, Option, Some, None, ℕ, ◌≤◌, false, ◌||◌, eqb, ltb, arith}
use Rattle.std.specs.Prelude.{option_map}
use Rattle.amr_frame.specs.First.{when}
use Rattle.amr_frame.specs.declared.profile.ProfileFault.{ProfileFault}
use Rattle.amr_frame.specs.Profiles.{IsValid, profile_fault}
use Rattle.amr_frame.proofs.FirstLemmas.{first_none, or_false, when_none}
use Rattle.spec_sending.specs.Plans.{IsPlan, carried_blocks}
use Rattle.spec_sending.specs.declared.fault.SendFault.TheVariants as fault
use Rattle.spec_sending.specs.declared.plan.SendPlan.{SendPlan}

above : (n : ℕ) → eqb n 0 ≡ false → 1 ≤ n
above n e = grind arith

-- its format is valid, its packets have blocks, and its groups packets
pub record IsSound (s : SendPlan) : Type 0 where
  pub format : IsValid s.profile
  pub blocks : 1 ≤ s.blocks
  pub length : 1 ≤ s.length

is_none : (o : Option ProfileFault) → option_map (λ why. fault.Profile why) o ≡ None → o ≡ None
is_none None e = refl
is_none (Some why) e = absurd cc

pub sound : (s : SendPlan) → IsPlan s → IsSound s
sound s h =
    let few = eqb s.blocks 0 || ltb s.profile.max_blocks (carried_blocks s) in
    let far = eqb s.length 0 || ltb 16 s.length in
    let format = option_map (λ why. fault.Profile why) (profile_fault s.profile) in
    let f1 = first_none format _ h in
    let f2 = first_none (when few fault.Blocks) _ f1.1 in
    let f3 = first_none (when far fault.Length) _ f2.1 in
    let b = or_false (eqb s.blocks 0) (ltb s.profile.max_blocks (carried_blocks s)) (when_none few fault.Blocks f2.0) in
    let l = or_false (eqb s.length 0) (ltb 16 s.length) (when_none far fault.Length f3.0) in
    record { format = is_none (profile_fault s.profile) f1.0; blocks = above s.blocks b.0; length = above s.length l.0 }
