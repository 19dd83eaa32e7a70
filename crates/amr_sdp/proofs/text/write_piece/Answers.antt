use Rattle.std.proofs.Common.{◌∙◌, subst}
use Rattle.run_report.specs.Written.{Writes}
use Rattle.amr_sdp.proofs.text.write_piece.Goals as goal

pub returns : goal.returns
returns g c =
    subst (λ text. Writes g.S.Sink text c.args.sink.now c.write_octets.new.sink c.write_octets.result)
    (c.as_bytes.ensures.value ∙ c.as_str.ensures.value) c.write_octets.ensures
