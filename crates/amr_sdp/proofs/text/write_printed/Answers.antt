use Rattle.media_params.specs.Fmtp.{parameters}
use Rattle.run_report.proofs.Fronts.{writes_once}
use Rattle.spec_media.specs.Printing.{printed}
use Rattle.amr_sdp.proofs.text.write_printed.Goals as goal

pub returns : goal.returns
returns g c =
    let wrote = c.print_fmtp.ensures in
    writes_once g.S.Sink
    (printed (parameters c.args.fmtp.now)) c.args.sink.now c.print_fmtp.new.sink c.print_fmtp.result
    wrote.whole wrote.part wrote.empty (record { cause = wrote.cause; beside = wrote.beside; same = wrote.same })
