use Rattle.run_report.proofs.Fronts.{writes_once}
use Rattle.amr_sdp.proofs.text.write_octets.Goals as goal

pub returns : goal.returns
returns g c =
    let wrote = c.write_whole.ensures in
    writes_once g.S.Sink (c.args.octets.now) c.args.sink.now c.write_whole.new.sink c.write_whole.result
    wrote.whole wrote.part wrote.empty (record { cause = wrote.cause; beside = wrote.beside; same = wrote.same })
