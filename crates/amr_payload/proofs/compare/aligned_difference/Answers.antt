use Rattle.std.proofs.Common.{sym, subst}
use Rattle.std.specs.Prelude.{Ok, Err}
use Rattle.amr_bits.specs.Bits.{AreOctets}
use Rattle.amr_payload.proofs.Viewing.{aligned_told}
use Rattle.amr_payload.proofs.compare.aligned_difference.Goals as goal

pub returns-in-Ok : goal.returns-in-Ok
returns-in-Ok c = sym (aligned_told c.args.profile.now c.args.view.now (Ok c.in-Ok.field-0) c.requires.format c.requires.aligned (subst AreOctets c.octets.ensures c.are_octets.ensures) c.in-Ok.ensures)

pub returns-in-Err : goal.returns-in-Err
returns-in-Err c = sym (aligned_told c.args.profile.now c.args.view.now (Err c.in-Err.place) c.requires.format c.requires.aligned (subst AreOctets c.octets.ensures c.are_octets.ensures) c.in-Err.ensures)
