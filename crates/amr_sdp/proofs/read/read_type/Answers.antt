use Rattle.std.proofs.Common.{sym, ap, ◌∙◌, Ok, Err}
use Rattle.media_params.specs.Fmtp.{parameters}
use Rattle.media_params.specs.Readings.{told}
use Rattle.sdp_lines.specs.Attributes.{map_said}
use Rattle.amr_sdp.proofs.OfType.{offered, typed}
use Rattle.amr_sdp.proofs.read.read_type.Goals as goal

pub returns-in-Ok-clause-read : goal.returns-in-Ok-clause-read
returns-in-Ok-clause-read c = λ s says. record {
  type = typed s c.args.pt (map_said c.in-Some.map) c.in-Some-codec.codec c.parameters.result.now
      (Ok (parameters c.in-Ok.fmtp))
      (offered c.args.attributes.now s c.args.pt c.map.result c.in-Some.map c.codec.result c.in-Some-codec.codec
      c.parameters.result.now c.requires says c.map.ensures c.in-Some.is c.codec.ensures c.in-Some-codec.is
      c.parameters.ensures)
      (ap told (sym c.in-Ok.is) ∙ c.read_fmtp.ensures.answer);
}

pub returns-in-Err-clause-read : goal.returns-in-Err-clause-read
returns-in-Err-clause-read c = λ s says. record {
  type = typed s c.args.pt (map_said c.in-Some.map) c.in-Some-codec.codec c.parameters.result.now
      (Err c.in-Err.refusal)
      (offered c.args.attributes.now s c.args.pt c.map.result c.in-Some.map c.codec.result c.in-Some-codec.codec
      c.parameters.result.now c.requires says c.map.ensures c.in-Some.is c.codec.ensures c.in-Some-codec.is
      c.parameters.ensures)
      (ap told (sym c.in-Err.is) ∙ c.read_fmtp.ensures.answer);
}
