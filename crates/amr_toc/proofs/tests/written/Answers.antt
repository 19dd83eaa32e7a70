use Rattle.std.proofs.Common.{◌≤◌, sym, subst, ◌∙◌, arith, inl, inr}
use Rattle.std.proofs.Math.ListN.{length-set}
use Rattle.std.proofs.lemmas.Bool.{cases_eq}
use Rattle.std.proofs.lemmas.List.{get_or-set_other}
use Rattle.std.proofs.lemmas.Grind.{get_or-set_at}
use Rattle.amr_toc.specs.declared.entry.Entry.{Entry}
use Rattle.amr_toc.proofs.tests.written.Goals as goal

pub loop-k-preserved : goal.loop-k-preserved
loop-k-preserved c =
    let xs = c.loop-k.entries in
    let k = c.loop-k.k in
    let e = c.entry.result in (
      length-set xs k e ∙ c.loop-k.invariant.0,
      λ j other h. elim (cases_eq j k) [
        | inl s ↦ subst (λ (x : Entry). x.ft ≤ 15) (sym (get_or-set_at xs k j e other s (let n = c.loop-k.invariant.0 in omega (arith, s)))) c.entry.ensures.ft
        | inr ne ↦ subst (λ (x : Entry). x.ft ≤ 15) (sym (get_or-set_other xs k j e other ne)) (c.loop-k.invariant.1 j other h)
      ],
    )
