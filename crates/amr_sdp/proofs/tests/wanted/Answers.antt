use Rattle.std.proofs.Common.{rules, sym, subst}
use Rattle.amr_frame.specs.declared.codec.Codec.TheVariants.{Amr}
use Rattle.amr_mode.specs.Members.{members}
use Rattle.spec_modes.specs.ModeSets.{IsModeSet, modes_in}
use Rattle.amr_sdp.proofs.tests.wanted.Goals as goal

pub returns : goal.returns
unfolding members
returns g c = subst (λ b. IsModeSet Amr (modes_in b)) (sym c.in-Some.ensures.bits) (c.in-Some.ensures.is_set.0 (search rules))
