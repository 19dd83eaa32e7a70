-- What a job asks, and what it means.
use Rattle.std.specs.Prelude.{◌≤◌}
use Rattle.amr_sdp.specs.Answers.{IsWanted, wanted_said}
use Rattle.answer_engine.specs.declared.job.AnswerJob.{AnswerJob}
use Rattle.spec_offer.specs.Answering.{Answering, answer_meaning}
use Rattle.spec_run.specs.Meanings.{Meaning}

-- the answering that a job asks
abbrev pub answering_of : AnswerJob → Answering
answering_of job = record { wanted = wanted_said job.wanted; port = job.port }

-- what answering an offer means
abbrev pub answering_meaning : AnswerJob → Meaning
answering_meaning job = answer_meaning (answering_of job) job.limit

-- the jobs that are served: those that want modes of their codec, of at most 65,536 octets
pub record IsServed (job : AnswerJob) : Type 0 where
  pub wanted : IsWanted job.wanted
  pub some : 1 ≤ job.limit
  pub most : job.limit ≤ 65536
