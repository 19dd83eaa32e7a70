use Rattle.std.proofs.Common.{arith, ap, length, refl, ◌∙◌}
use Rattle.log_engine.proofs.CloseLemmas.{after_turn}
use Rattle.log_engine.proofs.GrowsLemmas.{same_through}
use Rattle.log_engine.proofs.ProgressLemmas.{begin_broken, begun, handled_turn, ready_of, way_broken}
use Rattle.log_engine.proofs.ReadLemmas.{turn_size}
use Rattle.log_engine.specs.Turns.{state}
use Rattle.rtp_packet.specs.Reading.{rest}
use Rattle.log_engine.proofs.run.handle_all.Goals as goal

pub returns-in-Err-clause-after : goal.returns-in-Err-clause-after
returns-in-Err-clause-after g c =
    let first = state c.args.handler.now c.args.reader.now c.args.input.now c.args.sink.now in
    begin_broken g.H.RecordHandler g.I.Source g.O.Sink first c.begin.new.sink c.requires.start.empty
    c.in-Err.ensures.failed c.begin.ensures.step.steady.same.grows

pub returns-in-Err-make_way-clause-after : goal.returns-in-Err-make_way-clause-after
returns-in-Err-make_way-clause-after g c =
    let first = state c.args.handler.now c.args.reader.now c.args.input.now c.args.sink.now in
    let now = state c.records.handler c.records.reader c.records.input c.records.sink in
    way_broken g.H.RecordHandler g.I.Source g.O.Sink first now c.make_way.new.sink
    (g.met.H.RecordHandler.early_grows c.args.handler.now) c.records.invariant.under
    c.make_way.ensures.step.kept c.make_way.ensures.step.same.grows

pub records-init : goal.records-init
records-init g c =
    let first = state c.args.handler.now c.args.reader.now c.args.input.now c.args.sink.now in
    let began = c.in_default.ensures in
    let fresh = c.requires.start.fresh in
    let none = ap length fresh.2 in
    record {
      unended = fresh.0;
      limit = refl;
      within = omega (arith, fresh.3);
      job = began.step.steady.job;
      ready = began.ready.0;
      counted = omega (arith, began.ready.1, none);
      calm_in = refl;
      calm_out = began.step.cause;
      same = began.step.steady.same;
      under = begun g.H.RecordHandler g.I.Source g.O.Sink first c.begin.new.handler c.begin.new.sink
          c.requires.start.empty began.step.empty fresh.2 fresh.3 began.done.0 began.done.1;
    }

pub records-preserved : goal.records-preserved
records-preserved g c =
    let first = state c.args.handler.now c.args.reader.now c.args.input.now c.args.sink.now in
    let now = state c.records.handler c.records.reader c.records.input c.records.sink in
    let way = c.in_default-make_way.ensures in
    let paused = state c.records.handler c.records.reader c.records.input c.make_way.new.sink in
    let next = state c.handle_next.new.handler c.handle_next.new.reader c.handle_next.new.input
    c.handle_next.new.sink in
    let kept = c.records.invariant in
    let turn = c.in_default-handle_next.ensures in
    let handled = turn.turned in
    let went = handled.came.brought.went in
    let ready = ready_of g.H.RecordHandler g.I.Source g.O.Sink first now c.make_way.new.sink
    kept.under way.step.kept way.step.same.grows way.ready in
    let size = turn_size handled.came.packet (rest now.reader) (rest next.reader) handled.came.more
    handled.came.brought.joins in
    let same = same_through g.O.Sink g.met.O.Sink.transitive in
    let before = same c.args.sink.now now.sink paused.sink kept.same way.step.same in
    record {
      unended = handled.came.brought.unended;
      limit = went.limit ∙ kept.limit;
      within = went.within;
      job = turn.steady.job ∙ kept.job;
      ready = turn.ready (λ e. absurd cc);
      counted = omega (arith, went.taken, size, turn.counted refl, kept.counted);
      calm_in = turn.faults.0 ∙ kept.calm_in;
      calm_out = turn.faults.1 ∙ way.step.cause ∙ kept.calm_out;
      same = same c.args.sink.now paused.sink next.sink before turn.steady.same;
      under = handled_turn g.H.RecordHandler g.I.Source g.O.Sink first paused next ready kept.job
          kept.limit turn.steady.same.grows handled;
    }

pub records-smaller : goal.records-smaller
records-smaller g c =
    let handled = c.in_default-handle_next.ensures.turned in
    let went = handled.came.brought.went in
    let size = turn_size handled.came.packet (rest c.records.reader) (rest c.handle_next.new.reader)
    handled.came.more handled.came.brought.joins in
    omega (arith, went.taken, went.limit, went.within, size)

pub returns-in-Err-make_way-clause-steady : goal.returns-in-Err-make_way-clause-steady
returns-in-Err-make_way-clause-steady g c = record {
  job = c.records.invariant.job;
  same = same_through g.O.Sink g.met.O.Sink.transitive c.args.sink.now c.records.sink c.make_way.new.sink
      c.records.invariant.same c.make_way.ensures.step.same;
}

pub returns-in-Some-clause-after : goal.returns-in-Some-clause-after
returns-in-Some-clause-after g c =
    let first = state c.args.handler.now c.args.reader.now c.args.input.now c.args.sink.now in
    let now = state c.records.handler c.records.reader c.records.input c.records.sink in
    let paused = state c.records.handler c.records.reader c.records.input c.make_way.new.sink in
    let next = state c.handle_next.new.handler c.handle_next.new.reader c.handle_next.new.input
    c.handle_next.new.sink in
    let way = c.in_default-make_way.ensures in
    let kept = c.records.invariant in
    let turn = c.in-Some.ensures in
    let ready = ready_of g.H.RecordHandler g.I.Source g.O.Sink first now c.make_way.new.sink
    kept.under way.step.kept way.step.same.grows way.ready in
    after_turn g.H.RecordHandler g.I.Source g.O.Sink first paused next c.in-Some.end
    (g.met.H.RecordHandler.early_grows c.args.handler.now) ready kept.job kept.limit
    turn.steady.same.grows turn.turned

pub returns-in-Some-clause-steady : goal.returns-in-Some-clause-steady
returns-in-Some-clause-steady g c =
    let same = same_through g.O.Sink g.met.O.Sink.transitive c.args.sink.now in
    let turn = c.in-Some.ensures.steady in record {
      job = turn.job ∙ c.records.invariant.job;
      same = same c.make_way.new.sink c.handle_next.new.sink
          (same c.records.sink c.make_way.new.sink c.records.invariant.same c.make_way.ensures.step.same)
          turn.same;
    }
