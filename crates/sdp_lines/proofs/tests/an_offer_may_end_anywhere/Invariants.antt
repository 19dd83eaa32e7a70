use Rattle.std.proofs.Common.{◌≤◌}
use Rattle.sdp_lines.proofs.tests.an_offer_may_end_anywhere.Given as goal

-- no text is counted twice
abbrev pub invariant-loop-end : goal.invariant-loop-end
invariant-loop-end g l = (l.read ≤ l.end) × (l.without ≤ l.end)
