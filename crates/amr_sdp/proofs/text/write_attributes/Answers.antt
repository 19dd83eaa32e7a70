use Rattle.std.proofs.Common.{subst}
use Rattle.amr_sdp.specs.Answers.{chosen_said}
use Rattle.amr_sdp.specs.Offers.{offer_said}
use Rattle.amr_sdp.specs.Texts.{parameters_text, times_text}
use Rattle.run_report.proofs.Fronts.{writes_both, writes_first}
use Rattle.run_report.specs.Written.{Writes}
use Rattle.amr_sdp.proofs.text.write_attributes.Goals as goal

pub returns-in-Ok : goal.returns-in-Ok
returns-in-Ok g c =
    let k = g.S.Sink in
    let first = c.args.sink.now in
    let mid = c.write_parameters.new.sink in
    let last = c.write_piece.new.sink in
    writes_both k g.met.S.Sink.transitive (parameters_text (chosen_said c.args.chosen.now))
    (times_text (offer_said c.args.offer.now)) first mid last c.write_piece.result
    c.in-Ok.ensures
    (subst (λ t. Writes k t mid last c.write_piece.result) (c.gather_times.ensures) c.write_piece.ensures)

pub returns-in-Err : goal.returns-in-Err
returns-in-Err g c =
    let k = g.S.Sink in
    let first = c.args.sink.now in
    let mid = c.write_parameters.new.sink in
    writes_first k (parameters_text (chosen_said c.args.chosen.now))
    (times_text (offer_said c.args.offer.now)) first mid c.in-Err.failed
    c.in-Err.ensures
