use Rattle.std.proofs.Common.{◌+◌, arith, length}
use Rattle.std.proofs.lemmas.List.FromFn.{fill_by_all}
use Rattle.spec_trial.specs.Draws.{after, drawn}
use Rattle.trial_engine.proofs.frames.fill_octets.Goals as goal

pub returns-clause-octets : goal.returns-clause-octets
returns-clause-octets c =
    let loop = c.loop-octet in
    let x = c.args.draws.now.state in
    fill_by_all (λ i. drawn (after x (i + 1)) 256) loop.octets (length c.args.octets.now) 0 (omega arith)
    (λ k lt. loop.invariant.drawn k (omega arith))
