use Rattle.std.proofs.Common.{rules}
use Rattle.std.specs.Prelude.{IsTrue}
use Rattle.stream_engine.proofs.turns.make_way.Goals as goal

pub returns-then-holds_answer-clause-way : goal.returns-then-holds_answer-clause-way
returns-then-holds_answer-clause-way g c = λ file given none.
    let held : IsTrue c.holds_answer.result = search rules in
    absurd ((c.holds_answer.ensures file given).0 held none)
