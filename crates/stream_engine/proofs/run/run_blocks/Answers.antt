use Rattle.std.proofs.Common.{◌≡◌, ap, subst, sym, ◌∙◌}
use Rattle.log_engine.proofs.GrowsLemmas.{same_through}
use Rattle.run_report.specs.declared.report.RunReport.{RunReport}
use Rattle.run_report.specs.declared.end.RunEnd.TheVariants as end
use Rattle.stream_engine.specs.Progress.{start_of, state}
use Rattle.stream_engine.proofs.Runs.{Did, closed_did, closing_did, never_memory, read_did, report_of}
use Rattle.stream_engine.proofs.run.run_blocks.Goals as goal

pub returns-in-ReadFault-clause-works : goal.returns-in-ReadFault-clause-works
returns-in-ReadFault-clause-works g c =
    let first = state c.args.sender c.args.reader c.args.input.now c.args.sink.now in
    let stop = c.send_blocks-stop in
    let now = state stop.new.sender stop.new.reader stop.new.input stop.new.sink in
    subst (Did g.I.Source g.O.Sink first now now.sink) (sym c.report.ensures)
    (read_did g.I.Source g.O.Sink first now stop.result.end _ c.in-ReadFault.is stop.ensures.after stop.ensures.faults)

pub returns-in-Ok : goal.returns-in-Ok
returns-in-Ok g c =
    let first = state c.args.sender c.args.reader c.args.input.now c.args.sink.now in
    let stop = c.send_blocks-stop in
    let now = state stop.new.sender stop.new.reader stop.new.input stop.new.sink in
    let closed = c.in-Ok.ensures in
    let told = c.report-in-Ok.ensures
    ∙ ap (report_of g.I.Source g.O.Sink stop.result.end stop.result.blocks) c.packets-in-Ok.ensures.view in
    record {
      works = subst (Did g.I.Source g.O.Sink first now c.close.new.sink) (sym told)
          (closed_did g.I.Source g.O.Sink first now stop.result.end c.close.new.sender c.close.new.sink stop.result.blocks
          (record {
            after = stop.ensures.after;
            no_read = c.in_default.not-ReadFault;
            no_write = c.in_default.not-WriteFault;
            faults = stop.ensures.faults;
          })
          closed.sent closed.empty closed.step.cause (stop.ensures.blocks c.in_default.not-WriteFault));
      never_memory = λ e. never_memory g.I.Source g.O.Sink (start_of g.I.Source g.O.Sink first) now stop.result.end
          stop.ensures.after (sym (ap (λ (r : RunReport). r.end) told) ∙ e);
      same = same_through g.O.Sink g.met.O.Sink.transitive c.args.sink.now now.sink c.close.new.sink stop.ensures.same
          closed.step.same;
    }

pub returns : goal.returns
returns g c =
    let first = state c.args.sender c.args.reader c.args.input.now c.args.sink.now in
    let stop = c.send_blocks-stop in
    let now = state stop.new.sender stop.new.reader stop.new.input stop.new.sink in
    let closed = c.in-Err.ensures in
    let told = c.report-in-Err.ensures in
    record {
      works = subst (Did g.I.Source g.O.Sink first now c.close.new.sink) (sym told)
          (closing_did g.I.Source g.O.Sink first now stop.result.end c.close.new.sink _
          (record {
            after = stop.ensures.after;
            no_read = c.in_default.not-ReadFault;
            no_write = c.in_default.not-WriteFault;
            faults = stop.ensures.faults;
          }) closed.part closed.step.same.grows
          closed.step.cause);
      never_memory = λ e. (let same : end.WriteFault ≡ end.OutOfMemory = sym (ap (λ (r : RunReport). r.end) told) ∙ e in
          absurd cc);
      same = same_through g.O.Sink g.met.O.Sink.transitive c.args.sink.now now.sink c.close.new.sink stop.ensures.same
          closed.step.same;
    }
