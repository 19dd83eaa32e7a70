use Rattle.std.proofs.Common.{Err, List, [], arith, map, subst, sym}
use Rattle.record_hearing.specs.declared.job.RecordJob.{RecordJob}
use Rattle.rtp_packet.specs.Written.{written}
use Rattle.run_report.specs.Written.{Writes}
use Rattle.spec_run.specs.Flows.{written_to}
use Rattle.spec_packet.specs.Rtp.{RtpPacket}
use Rattle.spec_sending.specs.Plans.{IsPlan}
use Rattle.trial_engine.proofs.Few.{none_begun}
use Rattle.trial_engine.specs.Lines.{IsOn}
use Rattle.trial_engine.proofs.Worked.{failed}
use Rattle.trial_engine.specs.Jobs.{recording_job, trial_of, trying_meaning}
use Rattle.trial_engine.specs.Unread.{WorksUnread}
use Rattle.trial_engine.proofs.trial.run_trial.Goals as goal

pub new-tape-requires : goal.new-tape-requires
new-tape-requires g c = record {
  served = record {
    served = record { plan = c.requires.served.receiving; some = omega arith; most = omega arith };
    plan = c.in-Ok.ensures.plan;
  };
  fresh = record {
    stands = c.in-Ok.ensures.stands;
    session = c.in-Ok.ensures.session;
    counts = c.in-Ok.ensures.counts;
  };
}

pub run-outcome-requires : goal.run-outcome-requires
run-outcome-requires g c =
    let job = c.args.job.now in
    let line = c.new-line.result in
    let sender = c.in-Ok-create.sender in
    let plan = c.in-Ok-create.ensures.plan in
    let valid = subst IsPlan (sym plan) c.requires.served.sending in
    record {
      served = c.requires.served;
      plan = plan;
      none = record {
        plan = valid;
        stands = c.in-Ok-create.ensures.stands;
        on = subst (λ (l : List RtpPacket). IsOn (recording_job job) job.seed line (map written l)) (sym (none_begun sender.plan valid))
            (subst (λ (r : RecordJob). IsOn r job.seed line []) c.new-tape.ensures.job c.new-line.ensures);
      };
    }

pub returns-in_default-create-2-clause-same : goal.returns-in_default-create-2-clause-same
returns-in_default-create-2-clause-same g c = g.met.O.Sink.reflexive c.args.output.now

pub returns-in-Err-clause-works : goal.returns-in-Err-clause-works
returns-in-Err-clause-works g c =
    let job = c.args.job.now in
    let old = c.args.output.now in
    let new = c.write_summary.new.output in
    subst (WorksUnread (trying_meaning job) (written_to g.O.Sink old new)) (sym c.ended-in-Err.ensures)
    (failed g.O.Sink (trial_of job) old new c.in-Err.field-0
    (subst (λ text. Writes g.O.Sink text old new (Err c.in-Err.field-0)) c.run-outcome.ensures.text c.in-Err.ensures))
