use Rattle.std.proofs.Common.{◌<◌, ◌∙◌, ap, arith, sym}
use Rattle.amr_mode.specs.Members.{members}
use Rattle.command_words.proofs.Modes.{given_short, greatest_has}
use Rattle.command_words.specs.Rows.{given_in}
use Rattle.spec_modes.specs.ModeSets.{has}
use Rattle.spec_words.specs.Given.{number_at}
use Rattle.spec_words.specs.Table.{start}
use Rattle.command_words.proofs.options.Options.start.Goals as goal

pub overflow_cast-result : goal.overflow_cast-result
overflow_cast-result c =
    let small : c.in-Some.mode < 16 = given_short c.args.modes.now (number_at start (given_in c.args.self.now)) c.in-Some.mode
    c.requires.left (sym c.number.ensures.value ∙ c.in-Some.is) in
    omega (arith, small)

pub returns-in-None-clause-among : goal.returns-in-None-clause-among
returns-in-None-clause-among c =
    ap (has (members c.args.modes.now)) c.greatest.ensures ∙ greatest_has (members c.args.modes.now) c.requires.some
