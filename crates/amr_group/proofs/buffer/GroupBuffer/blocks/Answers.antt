use Rattle.std.proofs.Common.{◌+◌}
use Rattle.amr_group.proofs.Buffered.{few, run_is, run_so, within}
use Rattle.amr_group.proofs.buffer.GroupBuffer.blocks.Goals as goal

pub stretch-requires-clause-few : goal.stretch-requires-clause-few
stretch-requires-clause-few c =
    few c.self.inside c.args.self.now (c.args.at + c.args.count) c.self.invariant c.self.view_is c.requires.within

pub stretch-requires-clause-within : goal.stretch-requires-clause-within
stretch-requires-clause-within c =
    within c.self.inside c.args.self.now c.deref.result.now (c.args.at + c.args.count) c.self.invariant
    c.self.view_is c.deref.ensures.value c.requires.within

pub returns-clause-cells : goal.returns-clause-cells
returns-clause-cells c =
    run_is c.self.inside c.args.self.now c.deref.result.now c.stretch.result.now c.args.at c.args.count
    c.self.view_is c.deref.ensures.value c.requires.within c.stretch.ensures

pub returns-clause-present : goal.returns-clause-present
returns-clause-present c =
    run_so c.self.inside c.args.self.now c.deref.result.now c.stretch.result.now c.args.at c.args.count
    c.self.invariant c.self.view_is c.deref.ensures.value c.requires.within c.stretch.ensures
