use Rattle.std.proofs.Common.{arith}
use Rattle.amr_playout.proofs.Plans.{facts}
use Rattle.trial_engine.proofs.Taped.{ended}
use Rattle.trial_engine.proofs.tape.Tape.finish.Goals as goal

pub returns : goal.returns
returns c records r =
    let tape = c.args.self in
    let plan = facts tape.listener.job.plan tape.listener.served.served.plan in
    ended tape.listener c.finish.new.self tape.file c.finish.new.out records c.counts.result c.in-Ok.ensures.ended
    r.heard r.sums c.counts.ensures tape.going (let most = plan.narrow in omega (arith, most))
