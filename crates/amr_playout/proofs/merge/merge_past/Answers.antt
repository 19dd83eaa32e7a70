use Rattle.std.proofs.Common.{sym, ◌∙◌, arith, refl}
use Rattle.amr_playout.proofs.Taking.{taken_past}
use Rattle.amr_playout.proofs.merge.merge_past.Goals as goal

pub returns-then-had-clause-merged : goal.returns-then-had-clause-merged
returns-then-had-clause-merged c =
    taken_past c.args.plan.now c.args.base c.args.edge c.args.place c.args.channel c.args.frame.now _ _ c.args.so_far _ _
    c.if-place-edge.false (c.requires.within.0 c.if-place-edge.false) c.merge_frame-had.ensures.ring c.merge_frame-had.ensures.merged
    (λ cs is. sym c.if-had.true ∙ c.merge_frame-had.ensures.had cs is) c.lower.ensures refl

pub returns-else-had-clause-merged : goal.returns-else-had-clause-merged
returns-else-had-clause-merged c =
    taken_past c.args.plan.now c.args.base c.args.edge c.args.place c.args.channel c.args.frame.now _ _ c.args.so_far _ _
    c.if-place-edge.false (c.requires.within.0 c.if-place-edge.false) c.merge_frame-had.ensures.ring c.merge_frame-had.ensures.merged
    (λ cs is. sym c.if-had.false ∙ c.merge_frame-had.ensures.had cs is) c.lower.ensures (omega arith)
