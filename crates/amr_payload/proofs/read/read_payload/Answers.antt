use Rattle.amr_payload.proofs.Strictly.{refused_first, takes_refusal}
use Rattle.amr_payload.proofs.read.read_payload.Goals as goal

pub returns-in-Err-clause-grammar : goal.returns-in-Err-clause-grammar
returns-in-Err-clause-grammar c =
    let p = c.args.profile.now in
    let octets = c.args.octets.now in
    (takes_refusal p octets c.in-Err.why c.requires c.are_octets.ensures (refused_first p octets c.in-Err.why c.in-Err.ensures.refused.first)).grammar
