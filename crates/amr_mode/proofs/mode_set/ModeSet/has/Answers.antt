use Rattle.std.proofs.Common.{◌∙◌, sym, le-ltb}
use Rattle.amr_mode.proofs.Sets.{tested, no_member}
use Rattle.amr_mode.proofs.mode_set.ModeSet.has.Goals as goal

pub returns-then-mode-lt16 : goal.returns-then-mode-lt16
returns-then-mode-lt16 c = tested c.args.self.now c.args.mode c.if-mode-lt16.true

pub returns-else-mode-lt16 : goal.returns-else-mode-lt16
returns-else-mode-lt16 c = le-ltb c.args.mode 16 c.if-mode-lt16.false ∙ sym (no_member c.args.self.now c.args.mode c.if-mode-lt16.false)
