use Rattle.segment_laws.proofs.Recording.{early_front, file_front}
use Rattle.segment_laws.proofs.recorded.what_is_written_stays.Goals as goal

pub returns : goal.returns
returns c = record { early = early_front; whole = file_front }
