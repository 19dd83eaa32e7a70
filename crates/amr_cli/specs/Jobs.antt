-- The job of the words, and what it means: ours.
use Rattle.std.specs.Prelude.{◌≡◌, ℕ, List, Option, Some}
use Rattle.amr_cli.specs.declared.job.Job.{Job}
use Rattle.amr_cli.specs.declared.job.Job.TheVariants.{AnswerOffer, ConvertLog, ListLog, RecordLog, RunTrial, StreamFile}
use Rattle.amr_playout.specs.Plans.{rules_in}
use Rattle.amr_playout.specs.declared.plan.Plan.{Plan}
use Rattle.record_hearing.specs.Jobs.{IsServed as IsRecordJob, recording_of}
use Rattle.answer_engine.specs.Jobs.{IsServed as IsAnswerJob, answering_of}
use Rattle.command_words.specs.Built.{built, commands}
use Rattle.convert_engine.specs.Jobs.{IsServed as IsConvertJob, hearing_of}
use Rattle.list_engine.specs.Jobs.{IsServed as IsListJob, listing_of}
use Rattle.spec_jobs.specs.Jobs.{job_by, meaning_of}
use Rattle.spec_jobs.specs.Jobs as asked
use Rattle.spec_record.specs.Recording.{Recording}
use Rattle.spec_run.specs.Meanings.{Meaning}
use Rattle.stream_engine.specs.Jobs.{IsServed as IsStreamJob}
use Rattle.trial_engine.specs.Jobs.{IsServed as IsTrialJob, trial_of}

-- the job that the octets of the words give, of the commands and options that are built
abbrev pub job_of : List (List ℕ) → Option asked.Job
job_of words = job_by commands built words

-- what is recorded by a plan, of this payload type or any
abbrev pub received_by : Option ℕ → Plan → Recording
received_by pt plan = record { profile = plan.profile; asked = pt; rules = rules_in plan }

-- the job of the words that a job of the program is
abbrev pub job_in : Job → asked.Job
job_in (RecordLog job) = asked.RecordLog (recording_of job) job.limit
job_in (StreamFile job) = asked.StreamFile job.plan job.limit
job_in (ConvertLog job) = asked.ConvertLog (recording_of (hearing_of job)) job.to job.limit
job_in (AnswerOffer job) = asked.AnswerOffer (answering_of job) job.limit
job_in (ListLog job) = asked.ListLog (listing_of job) job.limit
job_in (RunTrial job) = asked.RunTrial (trial_of job)

-- what a job of the program means
abbrev pub meaning_in : Job → Meaning
meaning_in job = meaning_of (job_in job)

-- a job is one that its engine serves
abbrev pub IsServed : Job → Type 0
IsServed (RecordLog job) = IsRecordJob job
IsServed (StreamFile job) = IsStreamJob job
IsServed (ConvertLog job) = IsConvertJob job
IsServed (AnswerOffer job) = IsAnswerJob job
IsServed (ListLog job) = IsListJob job
IsServed (RunTrial job) = IsTrialJob job

-- this holds of what the job of the words means, if they give one
abbrev pub Asked : List (List ℕ) → (Meaning → Type 0) → Type 0
Asked words P = (job : asked.Job) → job_of words ≡ Some job → P (meaning_of job)
