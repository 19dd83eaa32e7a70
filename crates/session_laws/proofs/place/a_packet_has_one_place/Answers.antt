use Rattle.session_laws.proofs.Places.{found, one_place, only}
use Rattle.session_laws.proofs.place.a_packet_has_one_place.Goals as goal

pub returns : goal.returns
returns c = record { unique = one_place; found = found; only = only }
