use Rattle.record_reader.proofs.Shown.{advances_show}
use Rattle.record_reader.proofs.reader.RecordReader.advance.Goals as goal

pub returns-clause-shows : goal.returns-clause-shows
returns-clause-shows g c = λ op. advances_show (g.S.Source.left c.args.source.now) (g.S.Source.left c.step.new.source) c.args.self.now c.step.new.self c.step.result (c.step.ensures.moves.goes op)
