use Rattle.std.proofs.Common.{◌*◌, ◌-◌, get_or, min, ap, sym, ◌∙◌, arith}
use Rattle.amr_bits.specs.Bits.{filled}
use Rattle.amr_bits.specs.Runs.{run}
use Rattle.amr_toc.proofs.Filling.{octet_is}
use Rattle.amr_toc.proofs.octets.octet_in.Goals as goal

pub returns : goal.returns
returns c =
    let o = c.args.octet in
    let size = c.len.ensures.bits in
    let field = c.len.ensures.field in
    let h = c.requires in
    ap (λ xs. get_or xs 0 0) (c.copy_to.ensures ∙ ap filled c.part.ensures.bits)
    ∙ octet_is (run c.args.bits) o c.min-count.result (omega arith) (c.min-count.ensures ∙ ap (λ n. min (n - 8 * o) 8) (sym size))
