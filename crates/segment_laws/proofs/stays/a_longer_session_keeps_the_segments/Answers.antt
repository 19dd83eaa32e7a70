use Rattle.segment_laws.proofs.Keeping.{keeps_accepted, keeps_segments}
use Rattle.segment_laws.proofs.stays.a_longer_session_keeps_the_segments.Goals as goal

pub returns : goal.returns
returns c = record { segments = keeps_segments; accepted = keeps_accepted }
