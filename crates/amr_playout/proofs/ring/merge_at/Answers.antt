use Rattle.std.proofs.Common.{ℕ, List, sym, ap, ◌∙◌, set}
use Rattle.std.specs.Prelude.{is_some}
use Rattle.amr_frame.specs.Cells.{held}
use Rattle.amr_frame.specs.declared.cell.Cell.{Cell}
use Rattle.amr_playout.proofs.CellLists.{held-set, no_slot, present_some, slot}
use Rattle.amr_playout.specs.Window.{held_of}
use Rattle.spec_session.specs.Quality.{better}
use Rattle.amr_playout.proofs.ring.merge_at.Goals as goal

pub returns-in-Some-clause-items : goal.returns-in-Some-clause-items
returns-in-Some-clause-items c =
    let xs : List Cell = c.args.ring.now.items in
    let i : ℕ = c.args.index in
    held-set xs i c.keep_better.new.kept
    ∙ ap (set (held_of xs) i)
    (c.keep_better.ensures.better
    ∙ ap (λ o. better c.args.codec o (held c.args.frame.now))
    (sym (slot xs i c.in-Some.cell.now c.in-Some.ensures.value)))

pub returns-in-Some-clause-had : goal.returns-in-Some-clause-had
returns-in-Some-clause-had c =
    sym (ap is_some (slot c.args.ring.now.items c.args.index c.in-Some.cell.now c.in-Some.ensures.value)
    ∙ present_some c.in-Some.cell.now)

pub returns-in_default-clause-items : goal.returns-in_default-clause-items
returns-in_default-clause-items c =
    no_slot c.args.ring.now.items c.args.index c.in_default.ensures.value c.requires.within

pub returns-in_default-clause-had : goal.returns-in_default-clause-had
returns-in_default-clause-had c =
    no_slot c.args.ring.now.items c.args.index c.in_default.ensures.value c.requires.within
