use Rattle.std.proofs.Common.{[], ◌∙◌, subst}
use Rattle.record_hearing.specs.declared.job.RecordJob.{RecordJob}
use Rattle.spec_trial.specs.Delivery.{past}
use Rattle.trial_engine.proofs.Lined.{passed}
use Rattle.trial_engine.specs.Lines.{carried}
use Rattle.trial_engine.specs.Tapes.{IsRecordOf}
use Rattle.trial_engine.proofs.line.LossyLine.close.Goals as goal

pub returns : goal.returns
returns c job seed packets on =
    let line = c.args.self in
    let l = carried seed packets in
    subst (λ (j : RecordJob). IsRecordOf j (past l []).delivered c.finish.result) (c.release.ensures.delivers.job ∙ on.job_is)
    (c.finish.ensures (past l []).delivered
    (passed l line.waiting line.tape c.release.new.tape [] on.shows.waits c.release.ensures.delivers on.shows.recorded))
