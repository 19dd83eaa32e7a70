use Rattle.stream_engine.proofs.stream.stream_file.Goals as goal

pub returns-in_default-create-clause-same : goal.returns-in_default-create-clause-same
returns-in_default-create-clause-same g c = g.met.O.Sink.reflexive c.args.output.now

pub returns-in_default-create-2-clause-same : goal.returns-in_default-create-2-clause-same
returns-in_default-create-2-clause-same g c = g.met.O.Sink.reflexive c.args.output.now
