use Rattle.std.proofs.Common.{◌∙◌, ap, sym, Ok, Err}
use Rattle.media_laws.proofs.Printed.{read_back}
use Rattle.media_params.proofs.Same.{told_so}
use Rattle.media_params.specs.Fmtp.{parameters}
use Rattle.media_params.specs.Readings.{told}
use Rattle.spec_media.specs.Reading.{parameters_of}
use Rattle.media_params.proofs.laws.reads_what_was_printed.Goals as goal

pub returns-in-Ok : goal.returns-in-Ok
returns-in-Ok c = told_so (Ok c.in-Ok.read) c.args.fmtp.now c.tell_short-in-Ok.ensures c.tell_short.ensures
    (sym (ap told c.in-Ok.is) ∙ c.read_fmtp.ensures.answer ∙ ap (parameters_of c.args.codec) c.requires.printed ∙ read_back c.args.codec (parameters c.args.fmtp.now) c.requires.valid)

pub returns-in-Err : goal.returns-in-Err
returns-in-Err c = told_so (Err c.in-Err.why) c.args.fmtp.now tt c.tell_short.ensures
    (sym (ap told c.in-Err.is) ∙ c.read_fmtp.ensures.answer ∙ ap (parameters_of c.args.codec) c.requires.printed ∙ read_back c.args.codec (parameters c.args.fmtp.now) c.requires.valid)
