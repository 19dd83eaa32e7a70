use Rattle.amr_playout.proofs.Judging.{reach_of}
use Rattle.amr_playout.specs.Plans.{rules_in}
use Rattle.amr_toc.specs.Viewed.{viewed}
use Rattle.amr_playout.proofs.verdict.seat.Goals as goal

pub returns-in-Some-clause-reach : goal.returns-in-Some-clause-reach
returns-in-Some-clause-reach c =
    reach_of (rules_in c.args.plan.now) c.args.before.now c.in-Some.session (viewed c.args.payload.now) c.judge.result
    c.in-Some.is c.judge.ensures.last
