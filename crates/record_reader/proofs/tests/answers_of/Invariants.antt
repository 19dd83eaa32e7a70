use Rattle.record_reader.specs.Reading.{IsUsable}
use Rattle.record_reader.proofs.tests.answers_of.Given as goal

abbrev pub invariant-loop-i : goal.invariant-loop-i
invariant-loop-i g l = IsUsable l.reader
