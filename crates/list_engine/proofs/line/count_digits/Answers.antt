use Rattle.std.proofs.Common.{arith}
use Rattle.list_engine.proofs.Digits.{four_more, most}
use Rattle.list_engine.proofs.line.count_digits.Goals as goal

pub overflow_add-behind : goal.overflow_add-behind
overflow_add-behind c =
    record { fits = omega (arith, c.loop-left.invariant.digits, most c.args.n c.ranges.n.fits) }

pub loop-left-preserved : goal.loop-left-preserved
loop-left-preserved c =
    let l = c.loop-left in
    record {
      digits = omega (
        arith,
        l.invariant.digits,
        four_more l.left c.loop-left-test.true l.auto.left-fits.fits,
      );
    }

pub overflow_add-result : goal.overflow_add-result
overflow_add-result c =
    record {
      fits = omega (
        arith,
        c.loop-left.invariant.digits,
        c.count_few.ensures,
        most c.args.n c.ranges.n.fits,
      );
    }
