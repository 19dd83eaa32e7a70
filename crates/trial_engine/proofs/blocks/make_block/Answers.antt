use Rattle.std.proofs.Common.{◌+◌, arith, subst, sym, take}
use Rattle.std.proofs.lemmas.List.{take_more_set}
use Rattle.trial_engine.proofs.Making.{block_more}
use Rattle.trial_engine.specs.Made.{MakesBlock}
use Rattle.trial_engine.proofs.blocks.make_block.Goals as goal

pub loop-cell-preserved : goal.loop-cell-preserved
loop-cell-preserved c =
    let loop = c.loop-cell in
    let i = loop.cell-index in
    let cell = c.make_frame.result in
    let made = c.make_frame.new.draws in
    subst (λ cells. MakesBlock c.args.codec c.args.draws.now (i + 1) cells made)
    (sym (take_more_set loop.cells i cell (omega arith)))
    (block_more c.args.codec c.args.draws.now loop.draws made i (take i loop.cells) cell loop.invariant c.make_frame.ensures)
