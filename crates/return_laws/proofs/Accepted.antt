-- The log of the accepted packets of a log is within its limit, and recorded as the same file.
use Rattle.std.proofs.Common.{ℕ, ◌+◌, ◌≤◌, Bool, true, false, cond, List, [], ◌∷◌, ◌++◌, length, arith}
use Rattle.std.specs.Prelude.{take}
use Rattle.std.proofs.lemmas.List.{length-append, length-take}
use Rattle.return_laws.proofs.Logs.{cut_short}
use Rattle.return_laws.proofs.Recorded.{log_recorded}
use Rattle.return_laws.specs.Recordings.{RecordsAs}
use Rattle.return_laws.specs.Strangers.{HasOneSegment, accepted_log}
use Rattle.spec_packet.specs.Log.{framed, log_of}
use Rattle.spec_record.specs.RecordMeaning.{record_meaning}
use Rattle.spec_record.specs.Recording.{Recording, file_of}
use Rattle.spec_run.specs.LogRuns.{records_of}
use Rattle.spec_segments.specs.Segments.{Segments, at_start}
use Rattle.spec_session.specs.Packets.{packet_of}
use Rattle.stranger_laws.proofs.Choosing.{chosen_file}
use Rattle.stranger_laws.specs.Strangers.{accepted_behind, accepted_records, behind, is_accepted}

-- a record that is chosen or not
one_most : (octets : List ℕ) (rest : List (List ℕ)) (b : Bool)
    → length (log_of (cond b (octets ∷ []) [] ++ rest)) ≤ length (framed octets) + length (log_of rest)
one_most octets rest true = omega (arith, length-append (framed octets) (log_of rest))
one_most octets rest false = omega arith

-- fewer records have a shorter log
chosen_short : (r : Recording) (s : Segments) (records : List (List ℕ))
    → length (log_of (accepted_behind r s records)) ≤ length (log_of records)
chosen_short r s [] = omega arith
chosen_short r s (octets ∷ records) =
    let o = packet_of r.profile r.asked octets in
    let rest = accepted_behind r (behind r.rules s o) records in
    let one = one_most octets rest (is_accepted r.rules s o) in
    omega (arith, one, chosen_short r (behind r.rules s o) records, length-append (framed octets) (log_of records))

pub accepted_recorded : (r : Recording) (limit : ℕ) (log : List ℕ) → HasOneSegment r limit log
    → RecordsAs r limit (accepted_log r limit log) ((record_meaning r limit).out log)
accepted_recorded r limit log one =
    let records = records_of limit log in
    let whole = cut_short (take limit log) in
    let few = chosen_short r at_start records in
    log_recorded r limit (accepted_records r records) (file_of r records) (omega (arith, whole, few, length-take limit log))
    (chosen_file r records one)
