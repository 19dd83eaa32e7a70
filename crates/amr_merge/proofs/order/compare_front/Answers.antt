use Rattle.std.proofs.Common.{◌∙◌, arith}
use Rattle.amr_merge.proofs.Octets.{front_as_bits}
use Rattle.amr_merge.proofs.order.compare_front.Goals as goal

-- src/order.rt:76:1
pub returns : goal.returns
returns c =
    let r = c.requires in
    let d = c.div_ceil-used.ensures in
    c.compare_octets.ensures.octets
    ∙ front_as_bits c.args.a.now c.args.b.now c.div_ceil-used.result c.args.len (omega arith) (omega arith) (omega arith)
    c.compare_octets.ensures.first c.compare_octets.ensures.second (λ k l. (r.clear k l).0) (λ k l. (r.clear k l).1)
