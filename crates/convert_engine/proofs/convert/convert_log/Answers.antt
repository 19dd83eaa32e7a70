use Rattle.convert_engine.proofs.convert.convert_log.Goals as goal

pub returns-in_default-create-2-clause-same : goal.returns-in_default-create-2-clause-same
returns-in_default-create-2-clause-same g c = g.met.O.Sink.reflexive c.args.output.now

pub returns-in_default-create-3-clause-same : goal.returns-in_default-create-3-clause-same
returns-in_default-create-3-clause-same g c = g.met.O.Sink.reflexive c.args.output.now
