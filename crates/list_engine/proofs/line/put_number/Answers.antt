use Rattle.std.proofs.Common.{arith, sym}
use Rattle.list_engine.proofs.Digits.{most, one, two}
use Rattle.list_engine.proofs.line.put_number.Goals as goal

pub put_counted-requires-clause-count : goal.put_counted-requires-clause-count
put_counted-requires-clause-count c = sym (one c.args.n c.if-n-lt10.true)

pub put_counted-requires-then-n-lt100-clause-count :
    goal.put_counted-requires-then-n-lt100-clause-count
put_counted-requires-then-n-lt100-clause-count c =
    sym (two c.args.n c.if-n-lt10.false c.if-n-lt100.true)

pub put_counted-requires-2-clause-room : goal.put_counted-requires-2-clause-room
put_counted-requires-2-clause-room c =
    omega (arith, c.requires, c.count_digits.ensures, most c.args.n c.ranges.n.fits)

pub returns-clause-few : goal.returns-clause-few
returns-clause-few c =
    omega (
      arith,
      c.put_counted-2.ensures.end,
      c.count_digits.ensures,
      most c.args.n c.ranges.n.fits,
    )
