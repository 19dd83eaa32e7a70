use Rattle.return_laws.proofs.Released.{left_released}
use Rattle.return_laws.proofs.sessions.what_is_left_repairs.Goals as goal

pub returns : goal.returns
returns c = left_released
