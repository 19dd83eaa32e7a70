use Rattle.std.proofs.Common.{◌∙◌, sym, ap}
use Rattle.std.specs.List.{list_all}
use Rattle.command_words.proofs.Pairs.{pairs_short}
use Rattle.command_words.specs.Options.{is_allowed}
use Rattle.command_words.specs.Rows.{given_in}
use Rattle.command_words.proofs.options.Options.are_allowed.Goals as goal

pub returns : goal.returns
returns c =
    sym (ap (list_all (is_allowed c.args.command.now c.args.self.now.codec (given_in c.args.self.now))) (pairs_short c.loop-rest.rest.now c.in_default.len_below))
    ∙ c.loop-rest.invariant
