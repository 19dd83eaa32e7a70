use Rattle.std.proofs.Common.{arith}
use Rattle.amr_payload.proofs.Comparing.{group_fits}
use Rattle.amr_toc.proofs.Valued.{viewed_value}
use Rattle.amr_toc.specs.Viewed.{viewed}
use Rattle.amr_payload.proofs.compare.compare_interleaving.Goals as goal

pub overflow_add-stride : goal.overflow_add-stride
overflow_add-stride c =
    let view = c.args.view.now in
    let is = viewed_value view.profile view.octets.now view.valid view.accepted in
    let fits = group_fits view.profile.interleaving is.blocks (viewed view) is.group in
    let s = c.stride.ensures in
    let i = c.index.ensures in
    omega arith
