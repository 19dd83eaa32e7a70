use Rattle.std.proofs.Common.{◌∙◌, sym}
use Rattle.command_words.proofs.Taken.{modes_taken}
use Rattle.spec_words.specs.Words.{pairs, texts}
use Rattle.command_words.proofs.options.Options.of.Goals as goal

pub returns-then-all_differ-clause-modes : goal.returns-then-all_differ-clause-modes
returns-then-all_differ-clause-modes c =
    let given = pairs (texts c.args.words.now) in
    modes_taken c.args.command.now c.in_ok-codec.codec given (sym c.are_allowed.ensures ∙ c.if-are_allowed.true)
