use Rattle.std.proofs.Common.{◌≤◌, ◌*◌, ap, sym, ◌∙◌, subst}
use Rattle.amr_toc.specs.Lists.{listed}
use Rattle.amr_toc.proofs.Shown.{count_is}
use Rattle.amr_toc.proofs.Valued.{viewed_value, blocks_are}
use Rattle.amr_toc.proofs.view.PayloadView.blocks.Goals as goal

pub returns-clause-blocks : goal.returns-clause-blocks
returns-clause-blocks c =
    let v = c.args.self.now in
    let is = viewed_value v.profile v.octets.now v.valid v.accepted in
    let e = blocks_are v.profile v.octets.now c.len.result v.valid v.accepted (c.len.ensures.entries ∙ sym (count_is v.profile v.octets.now (listed v.toc) v.table)) in
    ap (λ x. x * v.profile.channels) e ∙ sym is.whole

pub returns-clause-some : goal.returns-clause-some
returns-clause-some c =
    let v = c.args.self.now in
    let is = viewed_value v.profile v.octets.now v.valid v.accepted in
    let e = blocks_are v.profile v.octets.now c.len.result v.valid v.accepted (c.len.ensures.entries ∙ sym (count_is v.profile v.octets.now (listed v.toc) v.table)) in
    subst (λ x. 1 ≤ x) (sym e) is.some

pub returns-clause-most : goal.returns-clause-most
returns-clause-most c =
    let v = c.args.self.now in
    let is = viewed_value v.profile v.octets.now v.valid v.accepted in
    let e = blocks_are v.profile v.octets.now c.len.result v.valid v.accepted (c.len.ensures.entries ∙ sym (count_is v.profile v.octets.now (listed v.toc) v.table)) in
    subst (λ x. x ≤ v.profile.max_blocks) (sym e) is.most
