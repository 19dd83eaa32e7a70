-- The laws of a job: what it puts out for the first records stays in front of what it puts out for more.
use Rattle.std.proofs.Common.{ℕ, List, ◌++◌}
use Rattle.spec_run.specs.LogRuns.{RecordsJob}
use Rattle.spec_run.specs.Meanings.{IsPrefix}

-- more records put out more
abbrev pub EarlyGrows : RecordsJob → Type 0
EarlyGrows job = (hs more : List (List ℕ)) → IsPrefix (job.early hs) (job.early (hs ++ more))

-- what is put out in all begins with what the first records put out
abbrev pub WholeGrows : RecordsJob → Type 0
WholeGrows job = (hs more : List (List ℕ)) → IsPrefix (job.early hs) (job.whole (hs ++ more))
