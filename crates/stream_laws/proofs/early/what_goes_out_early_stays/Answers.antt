use Rattle.stream_laws.proofs.Growing.{early_grows, early_is_put}
use Rattle.stream_laws.proofs.early.what_goes_out_early_stays.Goals as goal

pub returns : goal.returns
returns c = record { whole = early_is_put; early = early_grows }
