use Rattle.std.proofs.Common.{refl}
use Rattle.log_engine.proofs.CloseLemmas.{closed_broken, closed_works, halted_of, never_memory}
use Rattle.log_engine.proofs.FaultLemmas.{calm_at, failed_on}
use Rattle.log_engine.proofs.GrowsLemmas.{same_through}
use Rattle.log_engine.proofs.WorksLemmas.{read_works, write_works}
use Rattle.log_engine.specs.Turns.{sent, state}
use Rattle.rtp_packet.specs.Reading.{limit_of, rest}
use Rattle.spec_run.specs.Flows.{read_from}
use Rattle.log_engine.proofs.run.run_records.Goals as goal

pub returns-in-ReadFault-clause-works : goal.returns-in-ReadFault-clause-works
returns-in-ReadFault-clause-works g c =
    let ran = c.in-ReadFault.ensures in
    let halt = ran.after in
    read_works (g.H.RecordHandler.job c.args.handler.now) (limit_of c.args.reader.now) _
    halt.packets (rest c.handle_all.new.reader) halt.extra
    (g.met.H.RecordHandler.whole_grows c.args.handler.now) refl halt.stopped halt.put ran.faults

pub returns-in-WriteFault-clause-works : goal.returns-in-WriteFault-clause-works
returns-in-WriteFault-clause-works g c =
    let ran = c.in-WriteFault.ensures in
    write_works (g.H.RecordHandler.job c.args.handler.now) (limit_of c.args.reader.now) _
    (g.met.H.RecordHandler.early_grows c.args.handler.now)
    (g.met.H.RecordHandler.whole_grows c.args.handler.now) refl ran.after ran.faults

pub returns-in-Ok-clause-works : goal.returns-in-Ok-clause-works
returns-in-Ok-clause-works g c =
    let ran = c.handle_all.ensures in
    let closed = c.in-Ok.ensures in
    closed_works g.H.RecordHandler g.I.Source g.O.Sink
    (state c.args.handler.now c.args.reader.now c.args.input.now c.args.sink.now)
    (state c.handle_all.new.handler c.handle_all.new.reader c.handle_all.new.input c.handle_all.new.sink)
    c.handle_all.result c.close.new.handler c.close.new.sink ran.after c.in_default.not-ReadFault c.in_default.not-WriteFault
    ran.faults closed.step.cause ran.steady.job closed.step.empty closed.done

pub returns-in-Ok-clause-never_memory : goal.returns-in-Ok-clause-never_memory
returns-in-Ok-clause-never_memory g c =
    let first = state c.args.handler.now c.args.reader.now c.args.input.now c.args.sink.now in
    let now = state c.handle_all.new.handler c.handle_all.new.reader c.handle_all.new.input
    c.handle_all.new.sink in
    never_memory g.H.RecordHandler g.I.Source g.O.Sink first now c.handle_all.result
    c.handle_all.ensures.after

pub returns-in-Err-clause-works : goal.returns-in-Err-clause-works
returns-in-Err-clause-works g c =
    let first = state c.args.handler.now c.args.reader.now c.args.input.now c.args.sink.now in
    let now = state c.handle_all.new.handler c.handle_all.new.reader c.handle_all.new.input
    c.handle_all.new.sink in
    let how = c.handle_all.result in
    let ran = c.handle_all.ensures in
    let input = read_from g.I.Source first.input now.input in
    let output = sent g.O.Sink first.sink now.sink in
    let never_read = c.in_default.not-ReadFault in
    let never_written = c.in_default.not-WriteFault in
    let whole_grows = g.met.H.RecordHandler.whole_grows c.args.handler.now in
    let halt = halted_of g.H.RecordHandler g.I.Source g.O.Sink first now how ran.after
    never_written in
    let broke = closed_broken g.H.RecordHandler g.I.Source g.O.Sink first now how c.close.new.sink
    whole_grows halt never_read ran.steady.job c.close.ensures.step.steady.same.grows c.in-Err.ensures.failed in
    let calm = calm_at how input output never_read never_written ran.faults in
    let failed = failed_on (sent g.O.Sink now.sink c.close.new.sink)
    (sent g.O.Sink first.sink c.close.new.sink)
    (record { before = calm.1; after = refl }) c.in-Err.ensures.step.cause in
    write_works (g.H.RecordHandler.job c.args.handler.now) (limit_of c.args.reader.now) _
    (g.met.H.RecordHandler.early_grows c.args.handler.now) whole_grows refl broke (calm.0, failed)

pub returns-in-Ok-clause-same : goal.returns-in-Ok-clause-same
returns-in-Ok-clause-same g c =
    same_through g.O.Sink g.met.O.Sink.transitive c.args.sink.now c.handle_all.new.sink
    c.close.new.sink c.handle_all.ensures.steady.same c.close.ensures.step.steady.same

pub returns-in-Err-clause-same : goal.returns-in-Err-clause-same
returns-in-Err-clause-same g c =
    same_through g.O.Sink g.met.O.Sink.transitive c.args.sink.now c.handle_all.new.sink
    c.close.new.sink c.handle_all.ensures.steady.same c.close.ensures.step.steady.same
