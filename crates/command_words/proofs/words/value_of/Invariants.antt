use Rattle.std.proofs.Common.{◌≡◌, length}
use Rattle.spec_words.specs.Words.{texts, pairs, value_of}
use Rattle.command_words.proofs.words.value_of.Given as goal

-- what is behind the option in the rest is behind it in all
abbrev pub invariant-loop-rest : goal.invariant-loop-rest
invariant-loop-rest l = value_of l.option (pairs (texts l.rest)) ≡ value_of l.option (pairs (texts l.words))

abbrev pub decreases-loop-rest : goal.decreases-loop-rest
decreases-loop-rest l = length l.rest
