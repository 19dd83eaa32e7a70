use Rattle.std.proofs.Common.{◌≡◌, length}
use Rattle.spec_words.specs.Words.{texts, pairs, all_differ}
use Rattle.command_words.proofs.words.all_differ.Given as goal

-- the options passed stand once
abbrev pub invariant-loop-rest : goal.invariant-loop-rest
invariant-loop-rest l = all_differ (pairs (texts l.rest)) ≡ all_differ (pairs (texts l.words))

abbrev pub decreases-loop-rest : goal.decreases-loop-rest
decreases-loop-rest l = length l.rest
