use Rattle.std.proofs.Common.{refl, sym, ◌∙◌}
use Rattle.stream_engine.specs.Progress.{state}
use Rattle.stream_engine.proofs.Came.{given_more, present_for, turn_broke, turn_sent}
use Rattle.stream_engine.proofs.Goes.{turn_halts}
use Rattle.stream_engine.proofs.Stops.{goes_on}
use Rattle.stream_engine.proofs.turns.send_next.Goals as goal

pub returns-in-Some-clause-turned : goal.returns-in-Some-clause-turned
returns-in-Some-clause-turned g c = λ start u may.
    let asked = c.next_block.ensures in
    turn_halts g.I.Source g.O.Sink start
    (state c.args.sender.now c.args.reader.now c.args.input.now c.args.sink.now)
    (state c.args.sender.now c.next_block.new.self c.next_block.new.source c.args.sink.now)
    c.next_block.new.cells c.next_block.result c.in-Some.end (sym c.end_on.ensures ∙ c.in-Some.is)
    (record { exact = asked.exact; went = asked.went_on; is = asked.left; no_read = asked.no_read })
    refl refl u may

pub send_block-requires-clause-block : goal.send_block-requires-clause-block
send_block-requires-clause-block g c =
    present_for c.args.sender.now.plan c.args.reader.now c.next_block.new.self _ _ c.next_block.new.cells
    c.next_block.result (goes_on c.next_block.result (sym c.end_on.ensures ∙ c.in_default.is)) c.requires.reading
    c.next_block.ensures.went_on

pub returns-in-Ok-clause-turned : goal.returns-in-Ok-clause-turned
returns-in-Ok-clause-turned g c = λ start u may.
    turn_sent g.I.Source g.O.Sink start
    (state c.args.sender.now c.args.reader.now c.args.input.now c.args.sink.now)
    (state c.send_block.new.sender c.next_block.new.self c.next_block.new.source c.send_block.new.output)
    c.next_block.new.cells c.next_block.result (goes_on c.next_block.result (sym c.end_on.ensures ∙ c.in_default.is))
    c.next_block.ensures.went_on c.next_block.ensures.left c.send_block.ensures.step.same.2 u
    c.in-Ok.ensures.sent c.send_block.ensures.plan

pub returns-in-Err-clause-turned : goal.returns-in-Err-clause-turned
returns-in-Err-clause-turned g c = λ start u may.
    let asked = c.next_block.ensures in
    let ready = goes_on c.next_block.result (sym c.end_on.ensures ∙ c.in_default.is) in
    let old = state c.args.sender.now c.args.reader.now c.args.input.now c.args.sink.now in
    let new = state c.send_block.new.sender c.next_block.new.self c.next_block.new.source c.send_block.new.output in
    turn_broke g.I.Source g.O.Sink start old new c.next_block.new.cells c.next_block.result ready asked.went_on asked.left
    c.send_block.ensures.step.same.2 u c.in-Err.ensures.part

pub returns-in-Ok-clause-counted : goal.returns-in-Ok-clause-counted
returns-in-Ok-clause-counted g c = λ _.
    let ready = goes_on c.next_block.result (sym c.end_on.ensures ∙ c.in_default.is) in (
      c.in-Ok.ensures.sent.blocks,
      given_more c.args.sender.now.plan c.args.reader.now c.next_block.new.self c.args.cells.now
          c.next_block.new.cells c.next_block.result ready c.requires.reading c.next_block.ensures.counts
          (present_for c.args.sender.now.plan c.args.reader.now c.next_block.new.self _ _ c.next_block.new.cells
          c.next_block.result ready c.requires.reading c.next_block.ensures.went_on),
    )
