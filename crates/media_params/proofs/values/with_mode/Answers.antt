use Rattle.media_params.proofs.Listed.{mode_more}
use Rattle.media_params.proofs.values.with_mode.Goals as goal

pub returns-clause-modes : goal.returns-clause-modes
returns-clause-modes c = mode_more c.args.set c.args.mode c.if-mode-ge16.false
