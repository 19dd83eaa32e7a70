use Rattle.return_laws.proofs.Released.{sent_released}
use Rattle.return_laws.proofs.sessions.what_is_sent_comes_back.Goals as goal

pub returns : goal.returns
returns c = sent_released
