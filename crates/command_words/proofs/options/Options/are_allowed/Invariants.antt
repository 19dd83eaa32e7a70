use Rattle.std.proofs.Common.{◌≡◌, length}
use Rattle.std.specs.List.{list_all}
use Rattle.command_words.specs.Options.{is_allowed}
use Rattle.command_words.specs.Rows.{given_in}
use Rattle.spec_words.specs.Words.{texts, pairs}
use Rattle.command_words.proofs.options.Options.are_allowed.Given as goal

-- the pairs passed are allowed
abbrev pub invariant-loop-rest : goal.invariant-loop-rest
invariant-loop-rest l =
    list_all (is_allowed l.command l.self.codec (given_in l.self)) (pairs (texts l.rest))
    ≡ list_all (is_allowed l.command l.self.codec (given_in l.self)) (given_in l.self)

abbrev pub decreases-loop-rest : goal.decreases-loop-rest
decreases-loop-rest l = length l.rest
