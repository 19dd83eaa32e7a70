use Rattle.std.proofs.Common.{arith, length, sym, subst}
use Rattle.std.proofs.lemmas.List.{take_rest}
use Rattle.amr_store.specs.Sights.{BeginsFrame, ReadsFrame}
use Rattle.amr_store.proofs.FrameRead.{fill_end, fill_more, fill_next, fill_start}
use Rattle.amr_store.proofs.block.read_block.Goals as goal

pub loop-k-init : goal.loop-k-init
loop-k-init c = fill_start c.args.codec c.args.octets.now c.args.cells.now c.requires

pub read_frame-cell-requires : goal.read_frame-cell-requires
read_frame-cell-requires c =
    let octets = c.args.octets.now in
    subst (BeginsFrame c.args.codec) (sym (take_rest octets c.loop-k.at))
    (fill_next c.args.codec octets (length c.args.cells.now) c.loop-k.at c.loop-k.k c.loop-k.cells c.loop-k.invariant
    (omega arith))

pub loop-k-preserved : goal.loop-k-preserved
loop-k-preserved c =
    let octets = c.args.octets.now in
    let cell = c.read_frame-cell.result in
    let read = subst (λ l. ReadsFrame c.args.codec l cell) (take_rest octets c.loop-k.at) c.read_frame-cell.ensures in
    (fill_more c.args.codec octets (length c.args.cells.now) c.loop-k.at c.loop-k.k c.octets_of.result c.loop-k.cells
    cell c.loop-k.invariant (omega arith) read c.octets_of.ensures).1

pub returns : goal.returns
returns c = fill_end c.args.codec c.args.octets.now (length c.args.cells.now) c.loop-k.at c.loop-k.k c.loop-k.cells
    c.loop-k.invariant c.loop-k-test.false
