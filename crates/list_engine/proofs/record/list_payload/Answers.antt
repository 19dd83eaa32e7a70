use Rattle.std.proofs.Common.{◌++◌, ◌∙◌, ap, codes}
use Rattle.amr_toc.specs.Viewed.{viewed}
use Rattle.list_engine.proofs.Written.{hears_one, mode_heard, payload_listed, payload_stops}
use Rattle.list_engine.specs.Records.{heard_more}
use Rattle.spec_modes.specs.Desk.{desk}
use Rattle.list_engine.proofs.record.list_payload.Goals as goal

pub returns-in-Ok-clause-heard : goal.returns-in-Ok-clause-heard
returns-in-Ok-clause-heard g c =
    hears_one c.args.desk.now c.hear.new.self c.step-mode.new.self c.cmr.result
    (viewed c.args.view.now).cmr c.cmr.ensures c.hear.ensures c.step-mode.ensures.stands

pub returns-in-Err-clause-heard : goal.returns-in-Err-clause-heard
returns-in-Err-clause-heard g c =
    hears_one c.args.desk.now c.hear.new.self c.step-mode.new.self c.cmr.result
    (viewed c.args.view.now).cmr c.cmr.ensures c.hear.ensures c.step-mode.ensures.stands

pub returns-in-Ok-clause-listed : goal.returns-in-Ok-clause-listed
returns-in-Ok-clause-listed g c = λ plan events stands.
    let cmr = (viewed c.args.view.now).cmr in
    let mode = c.step-mode.result in
    payload_listed g.O.Sink g.met.O.Sink.transitive c.args.job.now c.args.line.now c.args.view.now
    mode (desk plan (heard_more events cmr)).mode c.push.new.self
    c.requires.format (mode_heard c.args.desk.now c.hear.new.self c.step-mode.new.self c.cmr.result
    cmr c.cmr.ensures c.hear.ensures mode c.step-mode.ensures.mode plan events stands)
    (c.push.ensures ∙ ap (λ t. t ++ codes "\n") c.push_payload.ensures.text)
    c.args.output.now c.write.new.output c.write_asked_bits.new.output c.write_asked_bits.result
    c.in-Ok.ensures c.write_asked_bits.ensures

pub returns-in-Err-clause-listed : goal.returns-in-Err-clause-listed
returns-in-Err-clause-listed g c = λ plan events stands.
    let cmr = (viewed c.args.view.now).cmr in
    let mode = c.step-mode.result in
    payload_stops g.O.Sink g.met.O.Sink.transitive c.args.job.now c.args.line.now c.args.view.now
    mode (desk plan (heard_more events cmr)).mode c.push.new.self
    c.requires.format (mode_heard c.args.desk.now c.hear.new.self c.step-mode.new.self c.cmr.result
    cmr c.cmr.ensures c.hear.ensures mode c.step-mode.ensures.mode plan events stands)
    (c.push.ensures ∙ ap (λ t. t ++ codes "\n") c.push_payload.ensures.text)
    c.args.output.now c.write.new.output c.in-Err.failed c.in-Err.ensures
