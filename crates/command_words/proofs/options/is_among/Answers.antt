use Rattle.command_words.proofs.Modes.{past}
use Rattle.command_words.proofs.options.is_among.Goals as goal

pub returns-else-mode-lt16 : goal.returns-else-mode-lt16
returns-else-mode-lt16 c = past c.args.modes.now c.args.mode c.if-mode-lt16.false
