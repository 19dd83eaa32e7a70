use Rattle.std.proofs.Common.{subst, Ok, Err}
use Rattle.amr_sdp.specs.Texts.{format_text}
use Rattle.media_params.specs.Fmtp.{parameters}
use Rattle.run_report.proofs.Fronts.{writes_both, writes_first}
use Rattle.run_report.specs.Written.{Writes}
use Rattle.spec_media.specs.Printing.{printed}
use Rattle.amr_sdp.proofs.text.write_values.Goals as goal

pub returns-in-Ok : goal.returns-in-Ok
returns-in-Ok g c =
    let k = g.S.Sink in
    let first = c.args.sink.now in
    let mid = c.write_piece.new.sink in
    let last = c.write_printed.new.sink in
    writes_both k g.met.S.Sink.transitive (format_text c.args.chosen.now.pt)
    (printed (parameters c.args.chosen.now.fmtp)) first mid last c.write_printed.result
    (subst (λ t. Writes k t first mid (Ok c.in-Ok.field-0)) (c.gather_format.ensures) c.in-Ok.ensures)
    c.write_printed.ensures

pub returns-in-Err : goal.returns-in-Err
returns-in-Err g c =
    let k = g.S.Sink in
    let first = c.args.sink.now in
    let mid = c.write_piece.new.sink in
    writes_first k (format_text c.args.chosen.now.pt) (printed
    (parameters c.args.chosen.now.fmtp)) first mid c.in-Err.failed
    (subst (λ t. Writes k t first mid (Err c.in-Err.failed)) (c.gather_format.ensures) c.in-Err.ensures)
