use Rattle.std.proofs.Common.{◌∙◌, sym, ap}
use Rattle.spec_words.specs.Words.{all_differ}
use Rattle.command_words.proofs.Pairs.{pairs_short}
use Rattle.command_words.proofs.words.all_differ.Goals as goal

pub returns : goal.returns
returns c =
    sym (ap all_differ (pairs_short c.loop-rest.rest.now c.in_default.len_below)) ∙ c.loop-rest.invariant
