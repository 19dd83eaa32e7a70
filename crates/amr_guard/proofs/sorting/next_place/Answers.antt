use Rattle.std.proofs.Common.{arith, refl}
use Rattle.amr_guard.proofs.Walks.{behind_frame, in_frame, next_of}
use Rattle.amr_guard.proofs.sorting.next_place.Goals as goal

pub loop-walk-init : goal.loop-walk-init
loop-walk-init c = record { stands = c.requires.stands; passed = refl }

pub bounds-lengths-walk : goal.bounds-lengths-walk
bounds-lengths-walk c = in_frame c.loop-walk.invariant c.requires.more

pub overflow_add-walk : goal.overflow_add-walk
overflow_add-walk c = omega (arith, in_frame c.loop-walk.invariant c.requires.more, c.requires.lengths.frames)

pub loop-walk-smaller : goal.loop-walk-smaller
loop-walk-smaller c = omega (arith, in_frame c.loop-walk.invariant c.requires.more)

pub loop-walk-preserved : goal.loop-walk-preserved
loop-walk-preserved c = behind_frame c.loop-walk.invariant c.requires.more c.loop-walk-test.true

pub offset_bounds-places-walk : goal.offset_bounds-places-walk
offset_bounds-places-walk c =
    omega (arith, (next_of c.requires.lengths c.loop-walk.invariant c.requires.more c.loop-walk-test.false).small)

pub bounds-places-walk : goal.bounds-places-walk
bounds-places-walk c = (next_of c.requires.lengths c.loop-walk.invariant c.requires.more c.loop-walk-test.false).small

pub overflow_add-places : goal.overflow_add-places
overflow_add-places c =
    let now = next_of c.requires.lengths c.loop-walk.invariant c.requires.more c.loop-walk-test.false in
    omega (arith, now.below, now.few)

pub offset_bounds-places-walk-2 : goal.offset_bounds-places-walk-2
offset_bounds-places-walk-2 c =
    omega (arith, (next_of c.requires.lengths c.loop-walk.invariant c.requires.more c.loop-walk-test.false).small)

pub bounds-places-walk-2 : goal.bounds-places-walk-2
bounds-places-walk-2 c = (next_of c.requires.lengths c.loop-walk.invariant c.requires.more c.loop-walk-test.false).small

pub overflow_add-walk-2 : goal.overflow_add-walk-2
overflow_add-walk-2 c =
    omega (arith, (next_of c.requires.lengths c.loop-walk.invariant c.requires.more c.loop-walk-test.false).small)

pub returns-clause-place : goal.returns-clause-place
returns-clause-place c = (next_of c.requires.lengths c.loop-walk.invariant c.requires.more c.loop-walk-test.false).goes

pub returns-clause-stands : goal.returns-clause-stands
returns-clause-stands c =
    (next_of c.requires.lengths c.loop-walk.invariant c.requires.more c.loop-walk-test.false).behind.stands

pub returns-clause-passed : goal.returns-clause-passed
returns-clause-passed c =
    (next_of c.requires.lengths c.loop-walk.invariant c.requires.more c.loop-walk-test.false).behind.passed
