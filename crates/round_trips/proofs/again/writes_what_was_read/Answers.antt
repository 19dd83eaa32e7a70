use Rattle.std.proofs.Common.{subst}
use Rattle.amr_bits.specs.Bits.{AreOctets}
use Rattle.round_trips.proofs.Composed.{carried, size, bits}
use Rattle.round_trips.proofs.again.writes_what_was_read.Goals as goal

pub returns-clause-carried : goal.returns-clause-carried
returns-clause-carried c = carried c.args.view.now

pub returns-clause-size : goal.returns-clause-size
returns-clause-size c = size c.args.view.now (subst AreOctets c.octets.ensures c.are_octets.ensures)

pub returns-clause-bits : goal.returns-clause-bits
returns-clause-bits c = bits c.args.view.now (subst AreOctets c.octets.ensures c.are_octets.ensures)
