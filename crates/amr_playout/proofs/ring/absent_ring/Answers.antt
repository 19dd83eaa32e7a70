use Rattle.amr_frame.specs.Frames.{Frame}
use Rattle.std.proofs.Common.{Option, None, ◌≡◌, arith, ap, sym, ◌∙◌, replicate}
use Rattle.std.specs.List.{AllByRecursion}
use Rattle.amr_frame.specs.Cells.{IsCell}
use Rattle.std.proofs.Common.{subst}
use Rattle.amr_playout.proofs.CellLists.{absent_is, all-replicate, held-replicate}
use Rattle.amr_playout.specs.Window.{held_of}
use Rattle.amr_playout.proofs.ring.absent_ring.Goals as goal

pub returns-clause-items : goal.returns-clause-items
returns-clause-items c =
    let end : c.loop-at.at ≡ c.args.cells = omega arith in
    ap (λ b. held_of b.items) c.loop-at.invariant
    ∙ held-replicate c.loop-at.at c.absent-none.result c.absent-none.ensures.absent
    ∙ ap (λ n. replicate {A = Option Frame} n None) end

pub returns-clause-valid : goal.returns-clause-valid
returns-clause-valid c =
    subst (AllByRecursion (IsCell c.args.codec)) (sym (ap (λ b. b.items) c.loop-at.invariant))
    (all-replicate (IsCell c.args.codec) c.loop-at.at c.absent-none.result
    (absent_is c.args.codec c.absent-none.result c.absent-none.ensures.present c.absent-none.ensures.like_no_data))
