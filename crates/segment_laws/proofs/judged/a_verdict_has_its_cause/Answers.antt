use Rattle.segment_laws.proofs.Causes.{has_cause}
use Rattle.segment_laws.proofs.judged.a_verdict_has_its_cause.Goals as goal

pub returns : goal.returns
returns c = has_cause
