use Rattle.std.proofs.Common.{length, sym, ap, arith}
use Rattle.amr_be.proofs.Parts.{bodies_left, no_bodies}
use Rattle.amr_be.proofs.write.body_bits.Goals as goal

pub loop-cell-init : goal.loop-cell-init
loop-cell-init c = (omega arith, omega arith)

pub overflow_add-bits : goal.overflow_add-bits
overflow_add-bits c = omega (arith, c.loop-cell.invariant.1, c.len-bits.ensures.within, c.requires)

pub loop-cell-preserved : goal.loop-cell-preserved
loop-cell-preserved c =
    let left = bodies_left c.args.cells.now c.loop-cell.cell-index c.len-bits.result c.cell-item.result c.cell-item.is
    (omega arith) (sym c.len-bits.ensures.bits) in
    (omega (arith, left, c.loop-cell.invariant.0), omega (arith, c.loop-cell.invariant.1, c.len-bits.ensures.within))

pub returns : goal.returns
returns c =
    let none = ap length (no_bodies c.args.cells.now c.loop-cell.cell-index (omega arith)) in
    record { bits = omega (arith, none, c.loop-cell.invariant.0) }
