use Rattle.std.proofs.Common.{ap, arith, length}
use Rattle.media_params.proofs.Joined.{all_modes_are, one_more}
use Rattle.media_params.proofs.printing.gather_modes.Goals as goal

pub loop-mode-init : goal.loop-mode-init
loop-mode-init c = (c.new-text.ensures, omega (arith, ap length c.new-text.ensures))

pub loop-mode-preserved : goal.loop-mode-preserved
loop-mode-preserved c = (one_more c.args.set c.loop-mode.mode c.loop-mode.text.bytes c.push_mode.new.text.bytes c.loop-mode.invariant.0 c.push_mode.ensures.bytes, omega (arith, c.loop-mode.invariant.1, c.push_mode.ensures.len))

pub returns-clause-modes : goal.returns-clause-modes
returns-clause-modes c = all_modes_are c.args.set c.loop-mode.mode c.loop-mode.text.bytes (omega (arith, c.loop-mode-test.false, c.loop-mode.auto)) c.loop-mode.invariant.0
