use Rattle.std.proofs.Common.{take}
use Rattle.trial_engine.specs.Made.{MakesBlock}
use Rattle.trial_engine.proofs.blocks.make_block.Given as goal

abbrev pub invariant-loop-cell : goal.invariant-loop-cell
invariant-loop-cell l = MakesBlock l.codec l.initial.draws l.cell-index (take l.cell-index l.cells) l.draws
