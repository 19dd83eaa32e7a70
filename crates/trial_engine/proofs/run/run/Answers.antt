use Rattle.std.proofs.Common.{map, refl, subst}
use Rattle.rtp_packet.specs.Written.{written}
use Rattle.spec_sending.specs.Sending.{sent}
use Rattle.spec_sending.specs.declared.plan.SendPlan.{SendPlan}
use Rattle.spec_trial.specs.Trials.{blocks_of}
use Rattle.trial_engine.proofs.Told.{told}
use Rattle.trial_engine.specs.Jobs.{recording_job, trial_of}
use Rattle.trial_engine.specs.Lines.{IsOn}
use Rattle.trial_engine.proofs.run.run.Goals as goal

pub send_blocks-requires : goal.send_blocks-requires
send_blocks-requires c = c.requires

pub end_sending-requires : goal.end_sending-requires
end_sending-requires c =
    let job = c.args.job.now in
    record {
      sending = (recording_job job, job.seed, blocks_of (trial_of job), c.send_blocks.ensures.sent);
      few = c.send_blocks.ensures.few;
    }

pub returns : goal.returns
returns c =
    let job = c.args.job.now in
    let t = trial_of job in
    let line = c.end_sending.new.line in
    let on = subst (λ (s : SendPlan). IsOn (recording_job job) job.seed line (map written (sent s (blocks_of t)))) c.send_blocks.ensures.plan
    (c.end_sending.ensures (recording_job job) job.seed (blocks_of t) c.send_blocks.ensures.sent) in
    told t (recording_job job) line c.close-recorded.result c.from.result c.from.ensures refl on c.close-recorded.ensures
