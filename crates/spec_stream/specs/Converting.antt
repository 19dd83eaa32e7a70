-- Converting a log of packets into another (RFC 4571, 2): what a recording of the log releases is
-- sent again. It ends as the recording does. Ours.
use Rattle.std.specs.Prelude.{ℕ, List, length}
use Rattle.amr_frame.specs.Frames.{Frame}
use Rattle.run_report.specs.declared.counts.Counts.{Counts}
use Rattle.run_report.specs.declared.report.CountLines.TheVariants as lines
use Rattle.spec_record.specs.RecordCounts as recording
use Rattle.spec_record.specs.Recording.{Recording, heard}
use Rattle.spec_run.specs.LogRuns.{RecordsJob, log_meaning}
use Rattle.spec_run.specs.Meanings.{Meaning}
use Rattle.spec_sending.specs.declared.plan.SendPlan.{SendPlan}
use Rattle.spec_sending.specs.Sending.{sent}
use Rattle.spec_segments.specs.Release.{gone_out, released}
use Rattle.spec_stream.specs.Streaming.{begun_log, sent_log}

-- the blocks that are released of records, and those released while more records may come
abbrev pub released_in : Recording → List (List ℕ) → List (List Frame)
released_in r records = released r.rules (heard r records)

abbrev pub gone_out_in : Recording → List (List ℕ) → List (List Frame)
gone_out_in r records = gone_out r.rules (heard r records)

-- what is put out for records, and what of it is out while more may come
abbrev pub log_from : Recording → SendPlan → List (List ℕ) → List ℕ
log_from r s records = sent_log s (released_in r records)

abbrev pub early_from : Recording → SendPlan → List (List ℕ) → List ℕ
early_from r s records = begun_log s (gone_out_in r records)

-- what a run counts: what the recording counts, and the packets that were sent
abbrev pub counts_from : Recording → SendPlan → List (List ℕ) → Counts
counts_from r s records =
    record (recording.counts_of r records) { sent = length (sent s (released_in r records)) }

-- what converting does with records
abbrev pub convert_job : Recording → SendPlan → RecordsJob
convert_job r s = record {
  early = early_from r s;
  whole = log_from r s;
  counts = counts_from r s;
  lines = lines.Converting;
}

-- what it means, where at most `limit` octets are taken
abbrev pub convert_meaning : Recording → SendPlan → ℕ → Meaning
convert_meaning r s limit = log_meaning limit (convert_job r s)
