use Rattle.std.proofs.Common.{arith, ◌+◌}
use Rattle.amr_group.proofs.Buffered.{block_is, block_so, few, within}
use Rattle.amr_group.proofs.buffer.GroupBuffer.block.Goals as goal

pub stretch-requires-clause-few : goal.stretch-requires-clause-few
stretch-requires-clause-few c =
    let lt = c.requires.within in
    few c.self.inside c.args.self.now (c.args.at + 1) c.self.invariant c.self.view_is (omega (arith, lt))

pub stretch-requires-clause-within : goal.stretch-requires-clause-within
stretch-requires-clause-within c =
    let lt = c.requires.within in
    within c.self.inside c.args.self.now c.deref.result.now (c.args.at + 1) c.self.invariant c.self.view_is
    c.deref.ensures.value (omega (arith, lt))

pub returns-clause-cells : goal.returns-clause-cells
returns-clause-cells c =
    block_is c.self.inside c.args.self.now c.deref.result.now c.stretch.result.now c.args.at c.self.view_is
    c.deref.ensures.value c.requires.within c.stretch.ensures

pub returns-clause-present : goal.returns-clause-present
returns-clause-present c =
    block_so c.self.inside c.args.self.now c.deref.result.now c.stretch.result.now c.args.at c.self.invariant
    c.self.view_is c.deref.ensures.value c.requires.within c.stretch.ensures
