-- What a job means.
use Rattle.record_hearing.specs.Jobs.{recording_of}
use Rattle.record_hearing.specs.declared.job.RecordJob.{RecordJob}
use Rattle.spec_record.specs.RecordMeaning.{record_meaning}
use Rattle.spec_run.specs.Meanings.{Meaning}

-- what recording a log means
abbrev pub recording_meaning : RecordJob → Meaning
recording_meaning job = record_meaning (recording_of job) job.limit
