use Rattle.std.proofs.Common.{◌∙◌, ap, sym}
use Rattle.amr_frame.specs.Tables.{mode_bits}
use Rattle.amr_mode.proofs.Sets.{all_amr, all_wide}
use Rattle.amr_mode.proofs.mode_set.ModeSet.all.Goals as goal
use Rattle.spec_modes.specs.ModeSets.{all_modes}

pub returns-in-Amr : goal.returns-in-Amr
returns-in-Amr c = record { modes = all_amr ∙ ap all_modes (sym c.in-Amr.is); bits = ap mode_bits (sym c.in-Amr.is) }

pub returns-in-AmrWb : goal.returns-in-AmrWb
returns-in-AmrWb c = record { modes = all_wide ∙ ap all_modes (sym c.in-AmrWb.is); bits = ap mode_bits (sym c.in-AmrWb.is) }
