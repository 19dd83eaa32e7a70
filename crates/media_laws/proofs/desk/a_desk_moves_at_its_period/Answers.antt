use Rattle.media_laws.proofs.Desks.{moves_at}
use Rattle.media_laws.proofs.desk.a_desk_moves_at_its_period.Goals as goal

pub returns : goal.returns
returns c = moves_at
