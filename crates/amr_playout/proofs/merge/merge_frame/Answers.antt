use Rattle.std.proofs.Common.{ℕ, ◌+◌, ◌-◌, ◌*◌, arith, ap, ◌∙◌, set}
use Rattle.std.specs.Prelude.{is_some}
use Rattle.amr_frame.specs.Cells.{frame_of}
use Rattle.amr_playout.proofs.CellLists.{present_held}
use Rattle.amr_playout.proofs.Cells.{in_window, item_at}
use Rattle.amr_playout.proofs.Taking.{put_newly, row_at}
use Rattle.amr_playout.specs.Plans.{rules_in}
use Rattle.amr_playout.specs.Window.{at, held_of, item}
use Rattle.spec_session.specs.Quality.{better}
use Rattle.spec_session.specs.Session.{Rules}
use Rattle.amr_playout.proofs.merge.merge_frame.Goals as goal

pub merge_at-requires-clause-within : goal.merge_at-requires-clause-within
merge_at-requires-clause-within c =
    let row = row_at c.args.base c.args.place c.args.plan.now.window c.requires.within in
    let inside = in_window (rules_in c.args.plan.now) (c.args.place - c.args.base) c.args.channel c.requires.ready.below row.1 in
    omega (arith, c.requires.ready.ringed.full, inside)

pub returns-clause-merged : goal.returns-clause-merged
returns-clause-merged c = λ cs is.
    let row = row_at c.args.base c.args.place c.args.plan.now.window c.requires.within in
    let rules : Rules = rules_in c.args.plan.now in
    let r : ℕ = c.args.place - c.args.base in
    let i : ℕ = r * rules.channels + c.args.channel in
    let xs = held_of c.args.ring.now.items in
    c.merge_at.ensures.items
    ∙ ap (λ o. set xs i (better rules.codec (item xs i) o)) (present_held c.args.frame.now c.requires.ready.valid.present)
    ∙ put_newly rules cs (at c.args.base) (at c.args.place) r c.args.channel (frame_of c.args.frame.now) xs c.requires.ready.below row.1 row.0 is

pub returns-clause-had : goal.returns-clause-had
returns-clause-had c = λ cs is.
    let row = row_at c.args.base c.args.place c.args.plan.now.window c.requires.within in
    let rules : Rules = rules_in c.args.plan.now in
    let r : ℕ = c.args.place - c.args.base in
    let i : ℕ = r * rules.channels + c.args.channel in
    c.merge_at.ensures.had ∙ ap (λ xs. is_some (item xs i)) is
    ∙ ap is_some (item_at rules cs (at c.args.base) (at c.args.place) r c.args.channel c.requires.ready.below row.1 row.0)
