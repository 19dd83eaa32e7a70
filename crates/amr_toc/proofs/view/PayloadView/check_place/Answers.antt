use Rattle.std.proofs.Common.{arith}
use Rattle.amr_toc.proofs.InView.{few_before, in_listed}
use Rattle.amr_toc.proofs.view.PayloadView.check_place.Goals as goal

pub filled_before-requires : goal.filled_before-requires
filled_before-requires c = omega (arith, in_listed c.args.self.now c.args.at c.requires)

pub overflow_add-result : goal.overflow_add-result
overflow_add-result c =
    let few = few_before c.args.self.now c.args.at c.requires in
    omega (arith, few, c.header_octets.ensures.most, c.len.ensures.few.1, c.filled_before.ensures.most)
