use Rattle.std.proofs.Common.{◌++◌, ap, subst, Ok, Err}
use Rattle.amr_io.specs.declared.source.Failed.{Failed}
use Rattle.amr_sdp.specs.Answers.{wanted_said}
use Rattle.amr_sdp.specs.Offers.{offer_said}
use Rattle.amr_sdp.specs.Texts.{front_text, map_text}
use Rattle.run_report.proofs.Fronts.{writes_both, writes_first}
use Rattle.run_report.specs.Written.{Writes}
use Rattle.amr_sdp.proofs.text.write_media.Goals as goal

pub returns-in-Ok : goal.returns-in-Ok
returns-in-Ok g c =
    let k = g.S.Sink in
    let first = c.args.sink.now in
    let mid = c.write_front.new.sink in
    let last = c.write_piece.new.sink in
    writes_both k g.met.S.Sink.transitive (front_text c.args.port ++ (offer_said c.args.offer.now).protocol)
    (map_text (wanted_said c.args.wanted.now) c.args.pt) first mid last c.write_piece.result
    (subst (λ t. Writes {E = Failed} k t first mid (Ok c.in-Ok.field-0))
    (ap (λ t. front_text c.args.port ++ t) c.protocol.ensures) c.in-Ok.ensures)
    (subst (λ t. Writes k t mid last c.write_piece.result) (c.gather_map.ensures) c.write_piece.ensures)

pub returns-in-Err : goal.returns-in-Err
returns-in-Err g c =
    let k = g.S.Sink in
    let first = c.args.sink.now in
    let mid = c.write_front.new.sink in
    writes_first k (front_text c.args.port ++ (offer_said c.args.offer.now).protocol)
    (map_text (wanted_said c.args.wanted.now) c.args.pt) first mid c.in-Err.failed
    (subst (λ t. Writes {E = Failed} k t first mid (Err c.in-Err.failed))
    (ap (λ t. front_text c.args.port ++ t) c.protocol.ensures) c.in-Err.ensures)
