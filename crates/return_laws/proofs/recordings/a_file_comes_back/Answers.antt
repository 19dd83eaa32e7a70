use Rattle.return_laws.proofs.Streamed.{streamed_back}
use Rattle.return_laws.proofs.recordings.a_file_comes_back.Goals as goal

pub returns : goal.returns
returns c = streamed_back
