use Rattle.list_engine.proofs.Digits.{placed}
use Rattle.list_engine.proofs.line.put_counted.Goals as goal

pub returns-clause-put : goal.returns-clause-put
returns-clause-put c =
    let d = c.write_digits-start in
    placed c.args.room.now d.new.buf c.args.n c.args.at c.args.count d.result c.requires.count
    d.ensures.start d.ensures.written d.ensures.before
