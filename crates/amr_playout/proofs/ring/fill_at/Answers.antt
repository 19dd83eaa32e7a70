use Rattle.amr_playout.proofs.CellLists.{no_slot}
use Rattle.amr_playout.proofs.Fronts.{frames-put}
use Rattle.amr_playout.proofs.ring.fill_at.Goals as goal

pub returns-in-Some-clause-frames : goal.returns-in-Some-clause-frames
returns-in-Some-clause-frames c =
    frames-put c.args.ring.now.items c.args.index c.in-Some.cell.now c.fill.new.cell c.in-Some.ensures.value
    c.fill.ensures.frame

pub returns-in_default-clause-present : goal.returns-in_default-clause-present
returns-in_default-clause-present c =
    no_slot c.args.ring.now.items c.args.index c.in_default.ensures.value c.requires.within
