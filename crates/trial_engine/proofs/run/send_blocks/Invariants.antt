use Rattle.std.proofs.Common.{◌≡◌, ◌*◌, length}
use Rattle.spec_trial.specs.Blocks.{blocks_made, made_from, none_made}
use Rattle.trial_engine.specs.Jobs.{recording_job}
use Rattle.trial_engine.specs.Running.{HasSent}
use Rattle.trial_engine.proofs.run.send_blocks.Given as goal

abbrev pub invariant-making : goal.invariant-making
invariant-making l = let p = l.job.send.profile in record {
  plan : l.sender.plan ≡ l.job.send;
  count : l.sender.blocks ≡ l.counter;
  cells : length l.block ≡ p.channels;
  drawn : l.draws.state ≡ (made_from p.codec (none_made l.job.seed) (l.counter * p.channels)).state;
  sent : HasSent (recording_job l.job) l.job.seed l.sender l.line (blocks_made p.codec p.channels l.job.seed l.counter);
}
