-- The log of the accepted packets of a log: this project's own.
use Rattle.std.specs.Prelude.{ℕ, List}
use Rattle.segment_laws.specs.One.{IsOneSegment}
use Rattle.spec_packet.specs.Log.{log_of}
use Rattle.spec_record.specs.Recording.{Recording, heard}
use Rattle.spec_run.specs.LogRuns.{records_of}
use Rattle.stranger_laws.specs.Strangers.{accepted_records}

-- of the records of a log, those of its first `limit` octets, no packet but the first begins a
-- segment
abbrev pub HasOneSegment : Recording → ℕ → List ℕ → Type 0
HasOneSegment r limit log = IsOneSegment r.rules (heard r (records_of limit log))

-- the log of those of these records that are accepted packets
abbrev pub accepted_log : Recording → ℕ → List ℕ → List ℕ
accepted_log r limit log = log_of (accepted_records r (records_of limit log))
