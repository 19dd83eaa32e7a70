use Rattle.std.proofs.Common.{◌++◌}
use Rattle.amr_sdp.specs.Texts.{format_text, line_end}
use Rattle.media_params.specs.Fmtp.{parameters}
use Rattle.run_report.proofs.Fronts.{writes_both, writes_first}
use Rattle.spec_media.specs.Printing.{printed}
use Rattle.amr_sdp.proofs.text.write_format.Goals as goal

pub returns-in-Ok : goal.returns-in-Ok
returns-in-Ok g c =
    let k = g.S.Sink in
    let first = c.args.sink.now in
    let mid = c.write_values.new.sink in
    let last = c.write_octets.new.sink in
    writes_both k g.met.S.Sink.transitive (format_text c.args.chosen.now.pt ++ printed
    (parameters c.args.chosen.now.fmtp)) (line_end) first mid last c.write_octets.result
    c.in-Ok.ensures
    c.write_octets.ensures

pub returns-in-Err : goal.returns-in-Err
returns-in-Err g c =
    let k = g.S.Sink in
    let first = c.args.sink.now in
    let mid = c.write_values.new.sink in
    writes_first k (format_text c.args.chosen.now.pt ++ printed (parameters c.args.chosen.now.fmtp))
    (line_end) first mid c.in-Err.failed
    c.in-Err.ensures
