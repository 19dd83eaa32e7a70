use Rattle.std.proofs.Common.{◌++◌, subst, Err}
use Rattle.amr_sdp.specs.Answers.{chosen_said, wanted_said}
use Rattle.amr_sdp.specs.Offers.{offer_said}
use Rattle.amr_sdp.specs.Texts.{front_text, map_text, parameters_text, times_text}
use Rattle.run_report.proofs.Fronts.{writes_both, writes_first}
use Rattle.run_report.specs.Written.{Writes}
use Rattle.amr_sdp.proofs.Texts.{pieces_are}
use Rattle.amr_sdp.proofs.text.write_answer.Goals as goal

pub returns-in-Ok : goal.returns-in-Ok
returns-in-Ok g c =
    let k = g.S.Sink in
    let first = c.args.sink.now in
    let mid = c.write_media.new.sink in
    let last = c.write_attributes.new.sink in
    subst (λ t. Writes k t first last c.write_attributes.result)
    (pieces_are (offer_said c.args.offer.now) (wanted_said c.args.wanted.now) c.args.port
    (chosen_said c.args.chosen.now))
    (writes_both k g.met.S.Sink.transitive (front_text c.args.port ++ (offer_said c.args.offer.now).protocol
    ++ map_text (wanted_said c.args.wanted.now) c.args.chosen.now.pt)
    (parameters_text (chosen_said c.args.chosen.now) ++ times_text
    (offer_said c.args.offer.now)) first mid last c.write_attributes.result
    c.in-Ok.ensures
    c.write_attributes.ensures)

pub returns-in-Err : goal.returns-in-Err
returns-in-Err g c =
    let k = g.S.Sink in
    let first = c.args.sink.now in
    let mid = c.write_media.new.sink in
    subst (λ t. Writes k t first mid (Err c.in-Err.failed))
    (pieces_are (offer_said c.args.offer.now) (wanted_said c.args.wanted.now) c.args.port
    (chosen_said c.args.chosen.now))
    (writes_first k (front_text c.args.port ++ (offer_said c.args.offer.now).protocol ++ map_text
    (wanted_said c.args.wanted.now) c.args.chosen.now.pt)
    (parameters_text (chosen_said c.args.chosen.now) ++ times_text
    (offer_said c.args.offer.now)) first mid c.in-Err.failed
    c.in-Err.ensures)
