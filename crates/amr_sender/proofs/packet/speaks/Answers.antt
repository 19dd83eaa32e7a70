use Rattle.std.proofs.Common.{◌≤◌, sym, subst}
use Rattle.amr_frame.specs.declared.cell.Cell.{Cell}
use Rattle.amr_sender.proofs.Plans.{type_at}
use Rattle.amr_sender.proofs.packet.speaks.Goals as goal

pub kind_of-requires : goal.kind_of-requires
kind_of-requires c =
    subst (λ (x : Cell). x.ft ≤ 15) (sym c.cell-item.is)
    (type_at c.args.codec c.args.block.now c.loop-cell.cell-index c.cell-item.result c.requires c.loop-cell-test.true)
