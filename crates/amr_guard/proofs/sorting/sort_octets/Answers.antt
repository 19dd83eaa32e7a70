use Rattle.std.proofs.Common.{arith}
use Rattle.amr_guard.proofs.Moves.{agree_all, agree_sorted}
use Rattle.amr_guard.proofs.Walks.{goes_below, put_on, goes_at}
use Rattle.amr_guard.proofs.sorting.sort_octets.Goals as goal

pub bounds-out-place : goal.bounds-out-place
bounds-out-place c =
    omega (arith, goes_below (goes_at c.loop-at.invariant.1 c.next_place-place.ensures.place), c.loop-at.invariant.0)

pub loop-at-preserved : goal.loop-at-preserved
loop-at-preserved c =
    put_on c.args.plain.now c.loop-at.out c.loop-at.invariant c.next_place-place.ensures.place
    c.next_place-place.ensures.stands c.next_place-place.ensures.passed

pub returns-clause-octets : goal.returns-clause-octets
returns-clause-octets c =
    agree_all c.args.lengths.now c.args.plain.now c.loop-at.out c.loop-at.at (omega (arith, c.requires.octets.before))
    c.loop-at.invariant.2

pub returns-clause-sorted : goal.returns-clause-sorted
returns-clause-sorted c =
    agree_sorted c.args.lengths.now c.args.plain.now c.loop-at.out c.loop-at.invariant.0 (returns-clause-octets c)
