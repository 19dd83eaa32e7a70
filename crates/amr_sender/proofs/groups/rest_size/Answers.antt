use Rattle.std.proofs.Common.{arith}
use Rattle.amr_sender.proofs.Plans.{facts}
use Rattle.amr_sender.proofs.Putting.{pieces_most}
use Rattle.amr_sender.proofs.groups.rest_size.Goals as goal

pub overflow_sub-result : goal.overflow_sub-result
overflow_sub-result c =
    let one = (facts c.args.plan.now c.requires).blocks in
    let is = c.from-blocks.ensures in
    omega (arith, one, is)

pub nonzero_div-result : goal.nonzero_div-result
nonzero_div-result c =
    let one = (facts c.args.plan.now c.requires).blocks in
    let is = c.from-blocks.ensures in
    omega (arith, one, is)

pub returns-clause-most : goal.returns-clause-most
returns-clause-most c =
    let one = (facts c.args.plan.now c.requires).blocks in
    let is = c.from-blocks.ensures in
    let len = c.len.ensures.exact in
    let most = pieces_most c.from-blocks.result c.len.result (omega (arith, one, is)) in
    omega (arith, most, len)
