-- A session of a recording that takes what a plan sends hears all of it.
use Rattle.std.proofs.Common.{◌≡◌, ℕ, ◌+◌, ◌*◌, ◌≤◌, ap, ◌∙◌, subst, arith, Option, None, Some, inl, inr, ◌⊎◌}
use Rattle.amr_frame.specs.Profiles.{group_bound}
use Rattle.return_laws.proofs.Limits.{limits}
use Rattle.return_laws.proofs.Plans.{Facts, FitsGroups}
use Rattle.return_laws.specs.Recordings.{HoldsGroup, IsRecording, Takes}
use Rattle.return_laws.specs.Sessions.{Hears, span}
use Rattle.spec_record.specs.Recording.{Recording}
use Rattle.spec_sending.specs.declared.plan.SendPlan.{SendPlan}
use Rattle.spec_session.specs.Session.{Rules}

-- packets of consecutive blocks
alone : (s : SendPlan) → s.length ≡ 1 → s.blocks * s.length ≡ s.blocks * 1
alone s e = ap (λ l. s.blocks * l) e

-- what a plan spans: a packet, or a group of a format that has groups
span_within : (s : SendPlan) (w most : ℕ) (o : Option ℕ) → (s.repeat ≡ 0) ⊎ (s.length ≡ 1) → FitsGroups o s
    → HoldsGroup w o → s.blocks + s.repeat ≤ most → most ≤ w → span s ≤ w
span_within s w most o (inr one) f h e g = let t = alone s one in omega arith
span_within s w most None (inl none) f h e g = let t = alone s f in omega arith
span_within s w most (Some k) (inl none) f h e g = let a = f.0 in omega (arith, a)

pub hears : (r : Recording) (s : SendPlan) → IsRecording r → Facts s → Takes r s → Hears r.rules s
hears r s ok plan takes =
    let groups = subst (λ o. HoldsGroup r.rules.window (group_bound o)) takes.format.interleaving ok.group in
    record {
      codec = ap (λ (x : Rules). x.codec) ok.rules ∙ takes.format.codec;
      channels = ap (λ (x : Rules). x.channels) ok.rules ∙ takes.format.channels;
      window = span_within s r.rules.window r.profile.max_blocks (group_bound s.profile.interleaving)
          plan.once plan.groups groups takes.blocks ok.payload;
      reach = takes.reach;
      most = ok.most;
    }

group_most : (o : Option ℕ) → HoldsGroup 1024 (group_bound o)
group_most None = tt
group_most (Some k) = omega arith

-- a group has at most 1024 blocks, and a packet at most 64
pub span_most : (s : SendPlan) → Facts s → span s ≤ 1024
span_most s plan =
    let m = (limits s.profile plan.format).1 in
    span_within s 1024 s.profile.max_blocks (group_bound s.profile.interleaving)
    plan.once plan.groups (group_most s.profile.interleaving) plan.most (omega arith)

pub span_single : (s : SendPlan) → Facts s → s.length ≡ 1 → span s ≤ 64
span_single s plan one =
    let m = (limits s.profile plan.format).1 in let n = plan.most in
    let t = alone s one in
    omega arith
