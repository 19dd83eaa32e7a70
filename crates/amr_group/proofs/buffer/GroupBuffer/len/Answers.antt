use Rattle.std.proofs.Common.{◌∙◌, arith}
use Rattle.amr_group.proofs.Buffered.{count_is, few}
use Rattle.amr_group.proofs.buffer.GroupBuffer.len.Goals as goal

pub returns-clause-exact : goal.returns-clause-exact
returns-clause-exact c = c.from.ensures ∙ count_is c.self.inside c.args.self.now c.self.view_is

pub returns-clause-few : goal.returns-clause-few
returns-clause-few c =
    let exact = c.from.ensures ∙ count_is c.self.inside c.args.self.now c.self.view_is in
    few c.self.inside c.args.self.now c.from.result c.self.invariant c.self.view_is (omega (arith, exact))
