use Rattle.media_laws.proofs.Desks.{to_neighbours}
use Rattle.media_laws.proofs.desk.a_desk_moves_to_neighbours.Goals as goal

pub returns : goal.returns
returns c = to_neighbours
