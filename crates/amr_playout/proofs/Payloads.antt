-- What a payload that was read says of a plan's window.
use Rattle.std.proofs.Common.{ℕ, zero, suc, ◌+◌, ◌-◌, ◌*◌, ◌/◌, ◌%◌, ◌<◌, ◌≤◌, ◌≡◌, length, ap, ◌∙◌, subst, arith, inl, inr, Option, Some, None}
use Rattle.std.proofs.lemmas.Bool.{cases_lt}
use Rattle.std.proofs.lemmas.Nat.{div-add-mod', div-mul-add, mod-mul-add, mul-le}
use Rattle.amr_frame.specs.declared.profile.Profile.{Profile}
use Rattle.amr_frame.specs.Profiles.{group_bound}
use Rattle.amr_playout.specs.Plans.{IsPlan, most_together}
use Rattle.amr_playout.specs.declared.plan.Plan.{Plan}
use Rattle.amr_playout.proofs.Plans.{Facts, facts}
use Rattle.amr_playout.specs.Standing.{IsFitting}
use Rattle.spec_payload.specs.Values.{FitsGroup, IsValue, Value}

one_less : (b s : ℕ) → 1 ≤ b → 1 ≤ s → (b - 1) * s < b * s
one_less zero s h k = absurd (omega arith)
one_less (suc b) s h k =
    (let e : suc b * s ≡ b * s + s = grind arith in let d : suc b - 1 ≡ b = omega arith in rw d (omega arith))

group_fits : (o : Option ℕ) (blocks most window : ℕ) (v : Value) → 1 ≤ blocks → blocks ≤ most
    → most_together most o ≤ window → FitsGroup o blocks v → (blocks - 1) * v.stride < window
group_fits None blocks most window v some le wide g =
    (let e : v.stride ≡ 1 = g.0 in let m : (blocks - 1) * v.stride ≡ (blocks - 1) * 1 = ap (λ k. (blocks - 1) * k)
    e in omega arith)
group_fits (Some group) blocks most window v some le wide g =
    let low = one_less blocks v.stride some g.0 in
    let high = g.3 in
    omega (arith, low, high)

pub fitting : (plan : Plan) (p : Profile) (v : Value) → Facts plan → p ≡ plan.profile → IsValue p v → IsFitting plan v
fitting plan p v f same is =
    let n : ℕ = plan.profile.channels in
    let b : ℕ = is.blocks in
    let size : length v.frames ≡ b * n + 0 = is.whole ∙ ap (λ (q : Profile). b * q.channels) same ∙ omega arith in
    let most : b ≤ plan.profile.max_blocks =
    (let m : p.max_blocks ≡ plan.profile.max_blocks = ap (λ (q : Profile). q.max_blocks)
    same in let le = is.most in omega arith) in
    let blocks = f.blocks in let few = f.few in let one = is.some in
    let count : length v.frames / n ≡ b = ap (λ k. k / n) size ∙ div-mul-add b n 0 f.some in
    let bound : b * n ≤ 64 * 6 = mul-le b n 64 6 (omega arith) (omega arith) in
    let up : 1 * 1 ≤ b * n = mul-le 1 1 b n (omega arith) f.some in
    record {
      some = omega (arith, size, up);
      whole = ap (λ k. k % n) size ∙ mod-mul-add b n 0 f.some;
      few = omega (arith, size, bound);
      fits =
          rw count (group_fits (group_bound plan.profile.interleaving) b plan.profile.max_blocks plan.window v is.some
          most f.together
          (subst (λ (q : Profile). FitsGroup (group_bound q.interleaving) b v) same is.group));
    }

-- there is a block
pub some_block : (n len : ℕ) → 0 < len → len % n ≡ 0 → 1 ≤ len / n
some_block n len some whole =
    elim (cases_lt 0 (len / n)) [
      | inl lt ↦ omega (arith, lt)
      | inr ge ↦ absurd
          (let none : len / n ≡ 0 = omega (arith, ge) in
          let all : len / n * n ≡ len = omega (arith, div-add-mod' len n, whole) in
          let zero : len / n * n ≡ 0 * n = ap (λ k. k * n) none in
          omega (arith, all, zero, some))
    ]

-- a payload that was read fits the plan, and so many blocks of it are counted
pub counted_in : (plan : Plan) (p : Profile) (v : Value) (frames channels blocks : ℕ) → IsPlan plan → p ≡ plan.profile
    → IsValue p v → frames ≡ length v.frames → channels ≡ plan.profile.channels → blocks ≡ frames / channels
    → IsFitting plan v × (blocks ≡ length v.frames / plan.profile.channels)
counted_in plan p v frames channels blocks planned same is count width share =
    (fitting plan p v (facts plan planned) same is, share ∙ (λ i. count i / width i))
