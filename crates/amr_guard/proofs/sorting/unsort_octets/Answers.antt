use Rattle.std.proofs.Common.{sym, ◌∙◌, arith}
use Rattle.amr_guard.proofs.Moves.{agree_all, agree_sorted, sorted_one}
use Rattle.amr_guard.proofs.Walks.{goes_below, take_on, goes_at}
use Rattle.amr_guard.proofs.sorting.unsort_octets.Goals as goal

pub bounds-sorted-place : goal.bounds-sorted-place
bounds-sorted-place c =
    omega (arith, goes_below (goes_at c.loop-at.invariant.1 c.next_place-place.ensures.place), c.requires.octets.after)

pub loop-at-preserved : goal.loop-at-preserved
loop-at-preserved c =
    take_on c.loop-at.out c.args.sorted.now c.loop-at.invariant c.next_place-place.ensures.place
    c.next_place-place.ensures.stands c.next_place-place.ensures.passed

pub returns-clause-octets : goal.returns-clause-octets
returns-clause-octets c =
    agree_all c.args.lengths.now c.loop-at.out c.args.sorted.now c.loop-at.at (omega (arith, c.requires.octets.after))
    c.loop-at.invariant.2

pub returns-clause-sorts_back : goal.returns-clause-sorts_back
returns-clause-sorts_back c =
    sym (agree_sorted c.args.lengths.now c.loop-at.out c.args.sorted.now c.requires.octets.after
    (returns-clause-octets c))

pub returns-clause-undoes_sorting : goal.returns-clause-undoes_sorting
returns-clause-undoes_sorting c plain l e =
    sorted_one c.args.lengths.now c.loop-at.out plain c.loop-at.invariant.0 l (returns-clause-sorts_back c ∙ e)
