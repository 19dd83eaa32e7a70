use Rattle.stream_laws.proofs.Converted.{converted_grows, converted_is_put}
use Rattle.stream_laws.proofs.converting.what_is_converted_early_stays.Goals as goal

pub returns : goal.returns
returns c = record { whole = converted_is_put; early = converted_grows }
