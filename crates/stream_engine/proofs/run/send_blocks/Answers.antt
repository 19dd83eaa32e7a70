use Rattle.std.proofs.Common.{ap, arith, refl, sym, ◌∙◌}
use Rattle.amr_sender.specs.Sender.{View}
use Rattle.log_engine.proofs.GrowsLemmas.{Grows-refl, same_through}
use Rattle.log_engine.specs.Turns.{sent}
use Rattle.stream_engine.specs.Progress.{start_of, state}
use Rattle.stream_engine.proofs.Goes.{moved, opened, out_at_first, way_broke}
use Rattle.stream_engine.proofs.Runs.{early_after}
use Rattle.stream_engine.proofs.Told.{within_limit}
use Rattle.stream_engine.proofs.Units.{reading_of}
use Rattle.amr_store.specs.Reading.{limit_of}
use Rattle.stream_engine.proofs.run.send_blocks.Goals as goal

pub returns-in-Some-clause-after : goal.returns-in-Some-clause-after
returns-in-Some-clause-after g c =
    let first = state c.args.sender.now c.args.reader.now c.args.input.now c.args.sink.now in
    early_after g.I.Source g.O.Sink first c.begin.new.reader c.begin.new.input c.in-Some.end c.requires.start
    (c.in-Some.ensures.begun c.args.sender.now.plan (limit_of c.args.reader.now) c.requires.start.is_for)

pub file-init : goal.file-init
file-init g c =
    let first = state c.args.sender.now c.args.reader.now c.args.input.now c.args.sink.now in
    let may = c.requires.start in
    let none = may.stands.blocks in
    let head = c.in_default.ensures.begun c.args.sender.now.plan (limit_of c.args.reader.now) may.is_for in
    record {
      counted = sym none;
      few = omega (arith, none);
      within = within_limit c.begin.new.reader;
      cells = c.requires.cells ∙ may.is_for.channels ∙ sym head.is_for.channels;
      calm_in = (c.in_default.ensures.faults (sent g.O.Sink c.args.sink.now c.args.sink.now) refl).0;
      calm_out = refl;
      same = record {
        reference = refl;
        same = g.met.O.Sink.reflexive c.args.sink.now.output.now;
        beside = refl;
        grows = Grows-refl (g.O.Sink.got c.args.sink.now.output.now);
      };
      under = opened g.I.Source g.O.Sink (start_of g.I.Source g.O.Sink first)
          (state c.args.sender.now c.begin.new.reader c.begin.new.input c.args.sink.now) may.plan refl head may.stands
          (out_at_first g.I.Source g.O.Sink first may.stands may.none may.empty);
    }

pub returns-in-Err-clause-after : goal.returns-in-Err-clause-after
returns-in-Err-clause-after g c =
    let first = state c.args.sender.now c.args.reader.now c.args.input.now c.args.sink.now in
    let start = start_of g.I.Source g.O.Sink first in
    let kept = c.file.invariant in
    let held = c.send_held-blocks.ensures in
    let under = held.goes start (g.I.Source.left c.file.input) kept.under in
    let mid = state c.send_held-blocks.new.sender c.send_held-blocks.new.reader c.file.input
    c.send_held-blocks.new.sink in
    let way = c.make_way.ensures.step in
    way_broke g.I.Source g.O.Sink start mid c.make_way.new.sink under way.kept way.same.grows

pub returns-in-Err-clause-same : goal.returns-in-Err-clause-same
returns-in-Err-clause-same g c =
    let same = same_through g.O.Sink g.met.O.Sink.transitive in
    same c.args.sink.now c.send_held-blocks.new.sink c.make_way.new.sink
    (same c.args.sink.now c.file.sink c.send_held-blocks.new.sink c.file.invariant.same
    c.send_held-blocks.ensures.same) c.make_way.ensures.step.same

pub send_next-requires-clause-takes : goal.send_next-requires-clause-takes
send_next-requires-clause-takes g c =
    let first = state c.args.sender.now c.args.reader.now c.args.input.now c.args.sink.now in
    let start = start_of g.I.Source g.O.Sink first in
    let kept = c.file.invariant in
    let held = c.send_held-blocks.ensures in
    let under = held.goes start (g.I.Source.left c.file.input) kept.under in
    let few = kept.few in
    let blocks = held.blocks in
    let rises = held.rises in
    let within = within_limit c.send_held-blocks.new.reader in
    let limit = under.is_for.limit in
    let most = c.requires.start.limit in
    record {
      unspent = under.stands.unspent;
      few = omega (arith, few, blocks, rises, within, limit, most);
    }

pub send_next-requires-clause-reading : goal.send_next-requires-clause-reading
send_next-requires-clause-reading g c =
    let first = state c.args.sender.now c.args.reader.now c.args.input.now c.args.sink.now in
    let start = start_of g.I.Source g.O.Sink first in
    let kept = c.file.invariant in
    let held = c.send_held-blocks.ensures in
    let under = held.goes start (g.I.Source.left c.file.input) kept.under in
    reading_of g.O.Sink start (g.I.Source.left c.file.input) c.send_held-blocks.new.sender
    c.send_held-blocks.new.reader c.send_held-blocks.new.sink under

pub returns-in-Some-send_next-clause-after : goal.returns-in-Some-send_next-clause-after
returns-in-Some-send_next-clause-after g c =
    let first = state c.args.sender.now c.args.reader.now c.args.input.now c.args.sink.now in
    let start = start_of g.I.Source g.O.Sink first in
    let kept = c.file.invariant in
    let held = c.send_held-blocks.ensures in
    let under = held.goes start (g.I.Source.left c.file.input) kept.under in
    let mid = state c.send_held-blocks.new.sender c.send_held-blocks.new.reader c.file.input
    c.send_held-blocks.new.sink in
    let way = c.in_default-make_way.ensures in
    c.in-Some-send_next.ensures.turned start
    (moved g.I.Source g.O.Sink start mid c.make_way.new.sink under way.step.kept way.step.same.grows) way.way

pub returns-in-Some-send_next-clause-blocks : goal.returns-in-Some-send_next-clause-blocks
returns-in-Some-send_next-clause-blocks g c = λ ok.
    let counted = c.file.invariant.counted in
    let blocks = c.send_held-blocks.ensures.blocks in
    let idle = ap (λ (v : View). v.blocks)
    (c.in-Some-send_next.ensures.idle c.in-Some-send_next.end refl ok) in
    omega (arith, counted, blocks, idle)

pub returns-in-Some-send_next-clause-unspent : goal.returns-in-Some-send_next-clause-unspent
returns-in-Some-send_next-clause-unspent g c = λ ok.
    let first = state c.args.sender.now c.args.reader.now c.args.input.now c.args.sink.now in
    let start = start_of g.I.Source g.O.Sink first in
    let kept = c.file.invariant in
    let held = c.send_held-blocks.ensures in
    let under = held.goes start (g.I.Source.left c.file.input) kept.under in
    ap (λ (v : View). v.spent) (c.in-Some-send_next.ensures.idle c.in-Some-send_next.end refl ok)
    ∙ under.stands.unspent

pub returns-in-Some-send_next-clause-same : goal.returns-in-Some-send_next-clause-same
returns-in-Some-send_next-clause-same g c =
    let same = same_through g.O.Sink g.met.O.Sink.transitive in
    let first = c.args.sink.now in
    let mid = c.send_held-blocks.new.sink in
    let way = c.make_way.new.sink in
    same first way c.send_next.new.sink (same first mid way
    (same first c.file.sink mid c.file.invariant.same c.send_held-blocks.ensures.same)
    c.make_way.ensures.step.same) c.in-Some-send_next.ensures.same

pub file-smaller : goal.file-smaller
file-smaller g c =
    let first = state c.args.sender.now c.args.reader.now c.args.input.now c.args.sink.now in
    let start = start_of g.I.Source g.O.Sink first in
    let kept = c.file.invariant in
    let held = c.send_held-blocks.ensures in
    let under = held.goes start (g.I.Source.left c.file.input) kept.under in
    let mid = state c.send_held-blocks.new.sender c.send_held-blocks.new.reader c.file.input
    c.send_held-blocks.new.sink in
    let way = c.in_default-make_way.ensures in
    let turn = c.in_default-send_next.ensures in
    let after = turn.turned start
    (moved g.I.Source g.O.Sink start mid c.make_way.new.sink under way.step.kept way.step.same.grows) way.way in
    let limit = kept.under.is_for.limit in
    let limit_after = after.is_for.limit in
    let rises = held.rises in
    let more = (turn.counted refl).1 in
    let within = within_limit c.send_next.new.reader in
    omega (arith, limit, limit_after, rises, more, within)

pub file-preserved : goal.file-preserved
file-preserved g c =
    let first = state c.args.sender.now c.args.reader.now c.args.input.now c.args.sink.now in
    let start = start_of g.I.Source g.O.Sink first in
    let kept = c.file.invariant in
    let held = c.send_held-blocks.ensures in
    let under = held.goes start (g.I.Source.left c.file.input) kept.under in
    let mid = state c.send_held-blocks.new.sender c.send_held-blocks.new.reader c.file.input
    c.send_held-blocks.new.sink in
    let way = c.in_default-make_way.ensures in
    let turn = c.in_default-send_next.ensures in
    let after = turn.turned start
    (moved g.I.Source g.O.Sink start mid c.make_way.new.sink under way.step.kept way.step.same.grows) way.way in
    let same = same_through g.O.Sink g.met.O.Sink.transitive in
    let sink = c.args.sink.now in
    let counted = kept.counted in
    let few = kept.few in
    let blocks = held.blocks in
    let rises = held.rises in
    let one = (turn.counted refl).0 in
    let more = (turn.counted refl).1 in
    record {
      counted = omega (arith, counted, blocks, one);
      few = omega (arith, few, blocks, rises, one, more);
      within = within_limit c.send_next.new.reader;
      cells = turn.cells ∙ kept.cells ∙ kept.under.is_for.channels ∙ sym after.is_for.channels;
      calm_in = turn.faults.0 ∙ kept.calm_in;
      calm_out = turn.faults.1 ∙ way.step.cause ∙ ap g.O.Sink.faults held.still ∙ kept.calm_out;
      same = same sink c.make_way.new.sink c.send_next.new.sink
          (same sink mid.sink c.make_way.new.sink (same sink c.file.sink mid.sink kept.same held.same)
          way.step.same) turn.same;
      under = after;
    }
