use Rattle.std.proofs.Common.{◌∙◌, sym, ap}
use Rattle.spec_words.specs.Words.{value_of}
use Rattle.command_words.proofs.Pairs.{pairs_short}
use Rattle.command_words.proofs.words.value_of.Goals as goal

pub returns : goal.returns
returns c =
    sym (ap (value_of c.args.option.now) (pairs_short c.loop-rest.rest.now c.in_default.len_below))
    ∙ c.loop-rest.invariant
