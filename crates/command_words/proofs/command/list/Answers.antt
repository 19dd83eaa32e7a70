use Rattle.command_words.proofs.Modes.{given_left}
use Rattle.amr_mode.specs.Members.{members}
use Rattle.command_words.specs.Rows.{given_in}
use Rattle.media_params.specs.Fmtp.{parameters}
use Rattle.spec_words.specs.Given.{modes_or_all, number_at}
use Rattle.spec_words.specs.Table.{start}
use Rattle.command_words.proofs.command.list.Goals as goal

pub start-requires-clause-left : goal.start-requires-clause-left
start-requires-clause-left c =
    given_left (number_at start (given_in c.args.options.now)) (members c.modes_left-modes.result)
    (modes_or_all c.args.options.now.codec (parameters c.args.fmtp).modes) c.modes_left-modes.ensures.modes
    (λ n. c.requires.modes.left (parameters c.args.fmtp) n c.requires.read)
