use Rattle.list_engine.proofs.Written.{handled, handled_part}
use Rattle.list_engine.proofs.lister.ListerRecordHandler.handle.Goals as goal

pub returns-in-Ok-clause-done : goal.returns-in-Ok-clause-done
returns-in-Ok-clause-done g c =
    handled g.O.Sink c.args.self.now.job c.args.self.now.desk c.list_record.new.desk
    c.args.self.now.count c.args.packet.now
    c.args.output.now c.list_record.new.output c.in-Ok.ensures.heard c.in-Ok.ensures.listed

pub returns-in-Err-clause-failed : goal.returns-in-Err-clause-failed
returns-in-Err-clause-failed g c =
    handled_part g.O.Sink c.args.self.now.job c.args.self.now.desk c.args.self.now.count
    c.args.packet.now
    c.args.output.now c.list_record.new.output c.in-Err.failed c.in-Err.ensures.listed
