use Rattle.segment_laws.proofs.Recording.{same_early, same_file}
use Rattle.segment_laws.proofs.recorded.one_segment_is_recorded_as_a_session.Goals as goal

pub returns : goal.returns
returns c = record { file = same_file; early = same_early }
