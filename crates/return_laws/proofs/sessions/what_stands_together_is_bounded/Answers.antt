use Rattle.return_laws.proofs.Matching.{span_most, span_single}
use Rattle.return_laws.proofs.Plans.{facts}
use Rattle.return_laws.proofs.sessions.what_stands_together_is_bounded.Goals as goal

pub returns : goal.returns
returns c = record { group = λ s h. span_most s (facts s h); packet = λ s h e. span_single s (facts s h) e }
