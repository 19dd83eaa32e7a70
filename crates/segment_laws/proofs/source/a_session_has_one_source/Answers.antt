use Rattle.segment_laws.proofs.Sourced.{one_source, others_change_nothing}
use Rattle.segment_laws.proofs.source.a_session_has_one_source.Goals as goal

pub returns : goal.returns
returns c = record { source = one_source; others = others_change_nothing }
