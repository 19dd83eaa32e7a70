use Rattle.std.proofs.Common.{◌∙◌, ap, sym, option_map}
use Rattle.command_words.proofs.Answering.{answering}
use Rattle.command_words.proofs.Formats.{converting, recording, sending}
use Rattle.command_words.proofs.Listing.{listing}
use Rattle.command_words.proofs.Trying.{trying}
use Rattle.command_words.specs.Rows.{given_in}
use Rattle.media_params.specs.Fmtp.{parameters}
use Rattle.command_words.proofs.command.asked.Goals as goal

pub returns-in-record-clause-job : goal.returns-in-record-clause-job
returns-in-record-clause-job c =
    let read = sym c.fmtp.ensures.read ∙ ap (option_map parameters) c.in_ok-fmtp.was in
    recording c.args.options.now.codec (given_in c.args.options.now) c.in_ok-fmtp.fmtp c.record.ensures.short read
    c.args.command.now c.record.result c.in-record.is c.record.ensures.values

pub returns-in-stream-clause-job : goal.returns-in-stream-clause-job
returns-in-stream-clause-job c =
    let read = sym c.fmtp.ensures.read ∙ ap (option_map parameters) c.in_ok-fmtp.was in
    sending c.args.options.now.codec (given_in c.args.options.now) c.in_ok-fmtp.fmtp c.stream.ensures.short read
    c.args.command.now c.stream.result c.in-stream.is c.stream.ensures.values

pub returns-in_ok-to-in-convert-clause-job : goal.returns-in_ok-to-in-convert-clause-job
returns-in_ok-to-in-convert-clause-job c =
    let read = sym c.fmtp.ensures.read ∙ ap (option_map parameters) c.in_ok-fmtp.was in
    let to_read = sym c.fmtp-in-convert.ensures.read ∙ ap (option_map parameters) c.in_ok-to-in-convert.was in
    converting c.args.options.now.codec (given_in c.args.options.now) c.in_ok-fmtp.fmtp c.convert.ensures.short.0 read
    c.in_ok-to-in-convert.to c.convert.ensures.short.1 to_read
    c.args.command.now c.convert.result c.in-convert.is c.convert.ensures.values

pub returns-in-answer-clause-job : goal.returns-in-answer-clause-job
returns-in-answer-clause-job c =
    let read = sym c.fmtp.ensures.read ∙ ap (option_map parameters) c.in_ok-fmtp.was in
    answering c.args.options.now.codec (given_in c.args.options.now) c.in_ok-fmtp.fmtp c.modes.result read c.modes.ensures.modes
    c.args.command.now c.answer.result c.in-answer.is c.answer.ensures.values

pub returns-in-list-clause-job : goal.returns-in-list-clause-job
returns-in-list-clause-job c =
    let read = sym c.fmtp.ensures.read ∙ ap (option_map parameters) c.in_ok-fmtp.was in
    listing c.args.options.now.codec (given_in c.args.options.now) c.in_ok-fmtp.fmtp c.list.ensures.short read
    c.args.command.now c.list.result c.in-list.is c.list.ensures.values

pub returns-in_ok-count-in-trial-clause-job : goal.returns-in_ok-count-in-trial-clause-job
returns-in_ok-count-in-trial-clause-job c =
    let read = sym c.fmtp.ensures.read ∙ ap (option_map parameters) c.in_ok-fmtp.was in
    let counted = sym c.number.ensures.value ∙ c.in_ok-count-in-trial.was in
    trying c.args.options.now.codec (given_in c.args.options.now) c.in_ok-fmtp.fmtp c.trial.ensures.short read
    c.args.command.now c.in_ok-count-in-trial.count c.trial.result counted c.in-trial.is c.trial.ensures.values
