use Rattle.std.proofs.Common.{◌∙◌}
use Rattle.amr_group.proofs.Placed.{placed}
use Rattle.amr_group.proofs.plan.GroupPlan.of_place.Goals as goal

pub returns-clause-there : goal.returns-clause-there
returns-clause-there c = λ p is same.
    placed c.args.self.now.blocks c.args.self.now.length c.args.block c.from-size.result c.from-length.result p
    (c.from-size.ensures ∙ c.size.ensures.exact) c.from-length.ensures is same
