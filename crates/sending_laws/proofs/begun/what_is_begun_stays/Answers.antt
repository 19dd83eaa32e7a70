use Rattle.sending_laws.proofs.Staying.{begun_is_sent, begun_stays}
use Rattle.sending_laws.proofs.begun.what_is_begun_stays.Goals as goal

pub returns : goal.returns
returns c = record { sent = begun_is_sent; begun = begun_stays }
