use Rattle.std.proofs.Common.{ℕ, ◌++◌, replicate, ap, sym, ◌∙◌, Option, None}
use Rattle.amr_frame.specs.Frames.{Frame}
use Rattle.amr_playout.proofs.CellLists.{held-drop}
use Rattle.amr_playout.specs.Window.{held_of}
use Rattle.amr_playout.proofs.block.put_front.Goals as goal

pub returns-clause-items : goal.returns-clause-items
returns-clause-items g c =
    let n : ℕ = c.args.channels in
    c.push_absent.ensures.items
    ∙ ap (λ os. os ++ replicate {A = Option Frame} n None)
    (sym (held-drop n c.fill_front.new.ring.items) ∙ ap held_of c.fill_front.ensures.rest
    ∙ held-drop n c.args.ring.now.items)
