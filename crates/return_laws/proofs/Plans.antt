-- What a valid plan has, rule by rule.
use Rattle.std.proofs.Common.{◌≡◌, ℕ, zero, suc, ◌+◌, ◌*◌, ◌<◌, ◌≤◌, Bool, true, false, not, ◌||◌, eqb, ltb, min, List, [], ◌∷◌, get_or, refl, arith, Option, Some, None, inl, inr, ◌⊎◌}
use Rattle.std.specs.Prelude.{◌&&◌, is_some, option_map}
use Rattle.std.proofs.lemmas.Bool.{ltb-false}
use Rattle.std.proofs.lemmas.Bool.Decides.{eqb_tells}
use Rattle.amr_frame.proofs.FirstLemmas.{or_false, when_none}
use Rattle.amr_frame.specs.First.{first, when}
use Rattle.amr_frame.specs.Profiles.{IsValid, group_bound, profile_fault}
use Rattle.amr_frame.specs.Tables.{kind_in}
use Rattle.sending_laws.proofs.Sound.{sound}
use Rattle.spec_sending.specs.Plans.{IsPlan, carried_blocks, grouped_blocks, is_request, is_speech, passes_group}
use Rattle.spec_sending.specs.declared.fault.SendFault.TheVariants as fault
use Rattle.spec_sending.specs.declared.plan.SendPlan.{SendPlan}

-- where a list has no first answer, each of its answers is none
pub none_at : {X : Type 0} (os : List (Option X)) (k : ℕ) → first os ≡ None → get_or os k None ≡ None
none_at [] k h = refl
none_at (None ∷ os) zero h = refl
none_at (None ∷ os) (suc k) h = none_at os k h
none_at (Some x ∷ os) k h = absurd cc

-- groups and packets have at most as many blocks as the format's groups
abbrev pub FitsGroups : Option ℕ → SendPlan → Type 0
FitsGroups None s = s.length ≡ 1
FitsGroups (Some most) s = (s.blocks * s.length ≤ most) × (s.blocks + s.repeat ≤ most)

pub record Facts (s : SendPlan) : Type 0 where
  pub format : IsValid s.profile
  pub some : 1 ≤ s.blocks
  pub most : s.blocks + s.repeat ≤ s.profile.max_blocks
  pub turns : (1 ≤ s.length) × (s.length ≤ 16)
  pub groups : FitsGroups (group_bound s.profile.interleaving) s
  pub once : (s.repeat ≡ 0) ⊎ (s.length ≡ 1)
  pub request : s.cmr < 16
  pub type : s.pt < 128

-- one of two numbers is as asked
clash : (x y : Bool) → x ≡ false → y ≡ false → (not x && not y) ≡ false → ⊥
clash true y d f e = absurd cc
clash false true d f e = absurd cc
clash false false d f e = absurd cc

either_is : (a b : ℕ) → (not (eqb a 0) && not (eqb b 1)) ≡ false → (a ≡ 0) ⊎ (b ≡ 1)
either_is a b e = elim (eqb_tells a 0) [
  | inl t ↦ inl t.1
  | inr t ↦ elim (eqb_tells b 1) [ inl u ↦ inr u.1 | inr u ↦ absurd (clash (eqb a 0) (eqb b 1) t.0 u.0 e) ]
]

front_holds : (a b : Bool) → not (a && b) ≡ false → a ≡ true
front_holds true b e = refl
front_holds false b e = absurd cc

less : (a b : ℕ) → ltb a b ≡ true → a < b
less a b e = grind arith

fits : (s : SendPlan) (o : Option ℕ) → 1 ≤ s.length → (ltb 1 s.length && not (is_some o)) ≡ false
    → passes_group (group_bound o) s ≡ false → FitsGroups (group_bound o) s
fits s None l e h = let x = ltb-false 1 s.length (front_is (ltb 1 s.length) e) in omega arith
  where
    front_is : (x : Bool) → (x && true) ≡ false → x ≡ false
    front_is true e = absurd cc
    front_is false e = refl
fits s (Some blocks) l e h =
    let most = min blocks 1024 in
    let k = or_false (ltb most (grouped_blocks s)) (ltb most (carried_blocks s)) h in (
      let a = ltb-false most (grouped_blocks s) k.0 in omega arith,
      let b = ltb-false most (carried_blocks s) k.1 in
          omega arith,
    )

pub facts : (s : SendPlan) → IsPlan s → Facts s
facts s h =
    let few = eqb s.blocks 0 || ltb s.profile.max_blocks (carried_blocks s) in
    let far = eqb s.length 0 || ltb 16 s.length in
    let k = sound s h in
    let alone = ltb 1 s.length && not (is_some s.profile.interleaving) in
    let again = not (eqb s.repeat 0) && not (eqb s.length 1) in
    let type = ltb 127 s.pt in
    let large = passes_group (group_bound s.profile.interleaving) s in
    let asks = not (is_request s.profile.codec s.cmr) in
    let rules = option_map (λ why. fault.Profile why) (profile_fault s.profile) ∷ when few fault.Blocks
    ∷ when far fault.Length ∷ when alone fault.Length ∷ when large fault.Group ∷ when again fault.Repeat
    ∷ when asks fault.Request ∷ when type fault.Number ∷ [] in
    let most = ltb-false s.profile.max_blocks (carried_blocks s)
    (or_false (eqb s.blocks 0) (ltb s.profile.max_blocks (carried_blocks s))
    (when_none few fault.Blocks (none_at rules 1 h))).1 in
    let short = ltb-false 16 s.length
    (or_false (eqb s.length 0) (ltb 16 s.length) (when_none far fault.Length (none_at rules 2 h))).1 in
    let low = ltb-false 127 s.pt (when_none type fault.Number (none_at rules 7 h)) in
    record {
      format = k.format;
      some = k.blocks;
      most = omega arith;
      turns = (k.length, omega arith);
      groups = fits s s.profile.interleaving k.length (when_none alone fault.Length (none_at rules 3 h))
          (when_none large fault.Group (none_at rules 4 h));
      once = either_is s.repeat s.length (when_none again fault.Repeat (none_at rules 5 h));
      request = less s.cmr 16 (front_holds (ltb s.cmr 16) (eqb s.cmr 15 || is_speech (kind_in s.profile.codec s.cmr))
          (when_none asks fault.Request (none_at rules 6 h)));
      type = omega arith;
    }
