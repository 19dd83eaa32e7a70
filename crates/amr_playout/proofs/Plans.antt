-- What a valid plan says.
use Rattle.std.proofs.Common.{ℕ, ◌<◌, ◌≤◌, ◌≡◌, Bool, true, false, ◌||◌, nat_eq, nat_lt, [], ◌∷◌, refl, arith, Option, Some, None}
use Rattle.std.specs.Prelude.{◌&&◌, is_some, not, option_map}
use Rattle.std.proofs.lemmas.Bool.Decides.{nat_tests}
use Rattle.amr_frame.specs.First.{when, first}
use Rattle.amr_frame.specs.Profiles.{group_bound, is_empty_group, profile_fault}
use Rattle.amr_frame.specs.declared.profile.ProfileFault.TheVariants as format_fault
use Rattle.amr_frame.specs.Tables.{mode_bits}
use Rattle.amr_playout.specs.declared.plan.PlanFault.TheVariants as fault
use Rattle.amr_playout.specs.declared.plan.Plan.{Plan}
use Rattle.amr_playout.specs.Plans.{IsPlan, most_together}

three : {X : Type 0} (o : Option X) (b c : Bool) (x y : X) → first (o ∷ when b x ∷ when c y ∷ []) ≡ None
    → (o ≡ None) × (b ≡ false) × (c ≡ false)
three None false false x y e = (refl, refl, refl)
three None false true x y e = absurd cc
three None true c x y e = absurd cc
three (Some z) b c x y e = absurd cc

five : {X : Type 0} (a b c d e : Bool) (x y z w v : X)
    → first (when a x ∷ when b y ∷ when c z ∷ when d w ∷ when e v ∷ []) ≡ None → (a ≡ false) × (d ≡ false)
five false false false false e x y z w v n = (refl, refl)
five false false false true e x y z w v n = absurd cc
five false false true d e x y z w v n = absurd cc
five false true c d e x y z w v n = absurd cc
five true b c d e x y z w v n = absurd cc

or_left : (a b : Bool) → (a || b) ≡ false → a ≡ false
or_left false b e = refl
or_left true b e = absurd cc

or_right : (a b : Bool) → (a || b) ≡ false → b ≡ false
or_right false b e = e
or_right true b e = absurd cc

map_none : {X Y : Type 0} (f : X → Y) (o : Option X) → option_map f o ≡ None → o ≡ None
map_none f None e = refl
map_none f (Some x) e = absurd cc

not_lt : (a b : ℕ) → nat_lt a b ≡ false → b ≤ a
not_lt a b e = grind (arith, nat_tests)

not_eq : (a : ℕ) → nat_eq a 0 ≡ false → 0 < a
not_eq a e = grind (arith, nat_tests)

pub record Facts (plan : Plan) : Type 0 where
  pub some : 0 < plan.profile.channels
  pub few : plan.profile.channels ≤ 6
  pub blocks : plan.profile.max_blocks ≤ 64
  pub together : most_together plan.profile.max_blocks (group_bound plan.profile.interleaving) ≤ plan.window
  pub wide : 0 < plan.window
  pub narrow : plan.window ≤ 4096
  pub reach : plan.reach ≤ 45000

at_least : (blocks window : ℕ) (o : Option ℕ) → most_together blocks o ≤ window → blocks ≤ window
at_least blocks window None h = h
at_least blocks window (Some g) h = omega arith

pub facts : (plan : Plan) → IsPlan plan → Facts plan
facts plan valid =
    let p = plan.profile in
    let narrow =
    nat_lt plan.window (most_together p.max_blocks (group_bound p.interleaving)) || nat_lt 4096 plan.window in
    let far = nat_eq plan.reach 0 || nat_lt 45000 plan.reach in
    let all =
    three (option_map (λ why. fault.Profile why) (profile_fault p)) narrow far fault.Window fault.Reach valid in
    let format : profile_fault p ≡ None = map_none (λ why. fault.Profile why) (profile_fault p) all.0 in
    let window = all.1 in
    let reach = all.2 in
    let ends =
    five (nat_eq p.channels 0 || nat_lt 6 p.channels)
    ((p.crc || p.sorting || is_some p.interleaving) && not p.octet_aligned) (is_empty_group p.interleaving)
    (nat_eq p.max_blocks 0 || nat_lt 64 p.max_blocks) (nat_eq p.modes 0 || nat_lt (mode_bits p.codec) p.modes)
    format_fault.Channels format_fault.NeedsAlignment format_fault.Interleaving format_fault.MaxBlocks
    format_fault.Modes format in
    let channels = ends.0 in
    let most = ends.1 in
    let together =
    not_lt plan.window (most_together p.max_blocks (group_bound p.interleaving))
    (or_left (nat_lt plan.window (most_together p.max_blocks (group_bound p.interleaving)))
    (nat_lt 4096 plan.window) window) in
    let least : p.max_blocks ≤ plan.window = at_least p.max_blocks plan.window (group_bound p.interleaving) together in
    let one : 0 < p.max_blocks = not_eq p.max_blocks (or_left (nat_eq p.max_blocks 0) (nat_lt 64 p.max_blocks) most) in
    record {
      some = not_eq p.channels (or_left (nat_eq p.channels 0) (nat_lt 6 p.channels) channels);
      few = not_lt 6 p.channels (or_right (nat_eq p.channels 0) (nat_lt 6 p.channels) channels);
      blocks = not_lt 64 p.max_blocks (or_right (nat_eq p.max_blocks 0) (nat_lt 64 p.max_blocks) most);
      together = together;
      wide = omega arith;
      narrow =
          not_lt 4096 plan.window
          (or_right (nat_lt plan.window (most_together p.max_blocks (group_bound p.interleaving)))
          (nat_lt 4096 plan.window) window);
      reach = not_lt 45000 plan.reach (or_right (nat_eq plan.reach 0) (nat_lt 45000 plan.reach) reach);
    }
