use Rattle.std.proofs.Common.{◌≡◌, ℕ, ◌+◌, ◌<◌, get_or}
use Rattle.spec_trial.specs.Draws.{after, drawn}
use Rattle.trial_engine.proofs.frames.fill_octets.Given as goal

abbrev pub invariant-loop-octet : goal.invariant-loop-octet
invariant-loop-octet l = record {
  state : l.draws.state ≡ after l.initial.draws.state l.octet-index;
  drawn : (k : ℕ) → k < l.octet-index → get_or l.octets k 0 ≡ drawn (after l.initial.draws.state (k + 1)) 256;
}
