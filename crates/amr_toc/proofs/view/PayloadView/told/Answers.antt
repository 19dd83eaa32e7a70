use Rattle.amr_toc.proofs.Reading.{answered, reads_refusal, reads_view}
use Rattle.amr_toc.proofs.view.PayloadView.told.Goals as goal

pub over-requires : goal.over-requires
over-requires c =
    let told = answered c.requires.accepts c.in-Ok.is in
    record { valid = c.requires.valid; accepted = told.accepted.none; table = told.table }

pub returns-in-Ok : goal.returns-in-Ok
returns-in-Ok c = reads_view c.args.profile.now c.args.octets.now c.over.result c.requires.valid c.are_octets.ensures (answered c.requires.accepts c.in-Ok.is).accepted c.over.ensures.format c.over.ensures.octets

pub returns-in-Err : goal.returns-in-Err
returns-in-Err c = reads_refusal c.args.profile.now c.args.octets.now c.in-Err.why c.requires.valid c.are_octets.ensures (answered c.requires.accepts c.in-Err.is).refused
