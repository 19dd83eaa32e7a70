use Rattle.std.proofs.Common.{subst}
use Rattle.std.proofs.lemmas.List.{take_rest}
use Rattle.amr_store.specs.Sights.{HoldsFrame}
use Rattle.amr_store.proofs.FrameFirst.{holds_more}
use Rattle.amr_store.proofs.block.block_sight.Goals as goal

pub loop-frame-preserved : goal.loop-frame-preserved
loop-frame-preserved c =
    let octets = c.args.octets.now in
    let at = c.loop-frame.at in
    holds_more c.args.codec c.loop-frame._frame c.in-Whole.size at octets c.loop-frame.invariant
    (subst (λ l. HoldsFrame c.args.codec l c.in-Whole.size) (take_rest octets at) c.in-Whole.ensures)
