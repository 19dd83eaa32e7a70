-- Which jobs of streaming are served. It is ours.
use Rattle.std.specs.Prelude.{◌≤◌, ◌^◌}
use Rattle.spec_sending.specs.Plans.{IsPlan}
use Rattle.stream_engine.specs.declared.job.StreamJob.{StreamJob}

-- the jobs that are served: those of a valid plan, of at most 2^40 octets
pub record IsServed (job : StreamJob) : Type 0 where
  pub plan : IsPlan job.plan
  pub some : 1 ≤ job.limit
  pub most : job.limit ≤ 2 ^ 40
