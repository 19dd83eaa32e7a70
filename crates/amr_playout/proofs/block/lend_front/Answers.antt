use Rattle.std.proofs.Common.{take, arith, ap, sym, ◌∙◌, subst}
use Rattle.amr_frame.specs.Blocks.{frames_of}
use Rattle.amr_playout.proofs.Fronts.{take-pieces}
use Rattle.amr_playout.specs.Steps.{PutsBlock, TakesBlock}
use Rattle.amr_playout.proofs.block.lend_front.Goals as goal

pub put_pieces-requires-clause-block : goal.put_pieces-requires-clause-block
put_pieces-requires-clause-block g c =
    let is =
    take-pieces c.args.channels c.as_slices.result.0.now c.as_slices.result.1.now
    (omega (arith, c.if-channels-front.false)) ∙ ap (take c.args.channels) c.as_slices.ensures in
    subst (TakesBlock g.B.BlockSink c.args.out.now) (sym is) c.requires.block

pub returns-else-channels-front : goal.returns-else-channels-front
returns-else-channels-front g c =
    let is =
    take-pieces c.args.channels c.as_slices.result.0.now c.as_slices.result.1.now
    (omega (arith, c.if-channels-front.false)) ∙ ap (take c.args.channels) c.as_slices.ensures in
    record {
      put = subst (λ xs. PutsBlock g.B.BlockSink c.args.out.now c.put_pieces.new.out (frames_of xs)
          c.put_pieces.result) is c.put_pieces.ensures.put;
    }
