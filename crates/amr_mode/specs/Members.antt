-- The modes of a set, rising: those whose bits are set.
use Rattle.std.specs.Prelude.{ℕ, List}
use Rattle.amr_mode.specs.declared.mode_set.ModeSet.{ModeSet}
use Rattle.spec_modes.specs.ModeSets.{modes_in}

unfoldable pub members : ModeSet → List ℕ
members set = modes_in set.bits
