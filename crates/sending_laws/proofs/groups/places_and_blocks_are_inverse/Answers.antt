use Rattle.sending_laws.proofs.Places.{back, is_place, there}
use Rattle.sending_laws.proofs.groups.places_and_blocks_are_inverse.Goals as goal

pub returns : goal.returns
returns c = record { there = there; back = back; is_place = is_place }
