use Rattle.media_laws.proofs.Printed.{read_back}
use Rattle.media_laws.proofs.parameters.what_is_printed_is_read.Goals as goal

pub returns : goal.returns
returns c = read_back
