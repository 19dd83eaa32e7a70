-- What recording a packet log means: its file, what of it goes out while the session lasts, and its counts. It is ours.
use Rattle.std.specs.Prelude.{ℕ}
use Rattle.run_report.specs.declared.report.CountLines.TheVariants as lines
use Rattle.spec_record.specs.RecordCounts.{counts_of}
use Rattle.spec_record.specs.Recording.{Recording, early_of, file_of}
use Rattle.spec_run.specs.LogRuns.{RecordsJob, log_meaning}
use Rattle.spec_run.specs.Meanings.{Meaning}

-- what it does with records
abbrev pub records_job : Recording → RecordsJob
records_job r = record {
  early = early_of r;
  whole = file_of r;
  counts = counts_of r;
  lines = lines.Recording;
}

-- what it means, where at most `limit` octets are taken
abbrev pub record_meaning : Recording → ℕ → Meaning
record_meaning r limit = log_meaning limit (records_job r)
