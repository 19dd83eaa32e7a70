use Rattle.std.proofs.Common.{◌∙◌}
use Rattle.amr_mode.proofs.Sets.{greatest_is}
use Rattle.amr_mode.proofs.mode_set.ModeSet.greatest.Goals as goal

pub returns : goal.returns
returns c = c.greatest_up_to.ensures ∙ greatest_is c.args.self.now
