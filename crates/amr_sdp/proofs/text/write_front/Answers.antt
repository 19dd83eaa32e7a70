use Rattle.std.proofs.Common.{subst, Ok, Err}
use Rattle.amr_sdp.specs.Texts.{front_text}
use Rattle.run_report.proofs.Fronts.{writes_both, writes_first}
use Rattle.run_report.specs.Written.{Writes}
use Rattle.amr_sdp.proofs.text.write_front.Goals as goal

pub returns-in-Ok : goal.returns-in-Ok
returns-in-Ok g c =
    let k = g.S.Sink in
    let first = c.args.sink.now in
    let mid = c.write_piece.new.sink in
    let last = c.write_octets.new.sink in
    writes_both k g.met.S.Sink.transitive (front_text c.args.port)
    (c.args.protocol.now) first mid last c.write_octets.result
    (subst (λ t. Writes k t first mid (Ok c.in-Ok.field-0)) (c.gather_front.ensures) c.in-Ok.ensures)
    c.write_octets.ensures

pub returns-in-Err : goal.returns-in-Err
returns-in-Err g c =
    let k = g.S.Sink in
    let first = c.args.sink.now in
    let mid = c.write_piece.new.sink in
    writes_first k (front_text c.args.port) (c.args.protocol.now) first mid c.in-Err.failed
    (subst (λ t. Writes k t first mid (Err c.in-Err.failed)) (c.gather_front.ensures) c.in-Err.ensures)
