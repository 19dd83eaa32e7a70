use Rattle.std.proofs.Common.{rules, sym, subst}
use Rattle.amr_frame.specs.declared.codec.Codec.TheVariants.{Amr}
use Rattle.amr_mode.specs.Members.{members}
use Rattle.spec_modes.specs.ModeSets.{IsModeSet, modes_in}
use Rattle.answer_engine.proofs.tests.job.Goals as goal

pub returns : goal.returns
unfolding members
returns g c = record {
  wanted = subst (λ b. IsModeSet Amr (modes_in b)) (sym c.in-Some.ensures.bits) (c.in-Some.ensures.is_set.0 (search rules));
  some = search rules;
  most = search rules;
}
