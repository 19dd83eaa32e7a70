-- What a run over a log read and put out (RFC 4571, 2). The limit and the ends are ours.
use Rattle.std.specs.Prelude.{◌≡◌, ◌≢◌, ◌⊎◌, ℕ, ◌+◌, ◌≤◌, List, [], ◌∷◌, ◌++◌, length, Option}
use Rattle.std.specs.Io.KnownBytes.{Appends, Consumes}
use Rattle.rtp_packet.specs.Reading.{Exhausts}
use Rattle.run_report.specs.declared.end.RunEnd.{RunEnd}
use Rattle.run_report.specs.declared.end.RunEnd.TheVariants as end
use Rattle.spec_packet.specs.Log.{AreRecords, IsPartial, log_of}
use Rattle.spec_run.specs.Flows.{Flow}
use Rattle.spec_run.specs.LogRuns.{MOST_HELD, RecordsJob, rest_end}
use Rattle.spec_run.specs.Meanings.{IsPrefix}

-- the octets read were these records and the rest, and then `extra`
pub record Took (limit : ℕ) (input : Flow) (packets : List (List ℕ)) (rest extra : List ℕ)
    : Type 0 where
  pub consumed : Consumes input.told input.told' ((log_of packets ++ rest) ++ extra)
  pub records : AreRecords packets
  pub within : length (log_of packets ++ rest) ≤ limit

-- the input ended behind these octets, and the rest of them is less than a record
pub record Ended (told : Option (List ℕ)) (octets rest extra : List ℕ) (how : RunEnd) : Type 0 where
  pub none : extra ≡ []
  pub all : Exhausts told octets
  pub is : how ≡ rest_end rest

-- one octet came past the limit
pub record Passed (taken limit : ℕ) (extra : List ℕ) : Type 0 where
  pub one : ℕ
  pub over : extra ≡ one ∷ []
  pub full : taken ≡ limit

-- why no record came behind these octets, by the end
abbrev pub Why : Option (List ℕ) → List ℕ → ℕ → ℕ → List ℕ → List ℕ → RunEnd → Type 0
Why told octets taken limit rest extra end.LimitReached = Passed taken limit extra
Why told octets taken limit rest extra end.ReadFault = extra ≡ []
Why told octets taken limit rest extra end.Done = Ended told octets rest extra end.Done
Why told octets taken limit rest extra (end.LogCut have) =
    Ended told octets rest extra (end.LogCut have)
Why told octets taken limit rest extra _ = ⊥

-- the records of the input are these, and `rest` is less than one more
pub record Stopped (limit : ℕ) (input : Flow) (packets : List (List ℕ)) (rest extra : List ℕ)
    (how : RunEnd) : Type 0 where
  pub took : Took limit input packets rest extra
  pub partial : IsPartial rest
  pub near : length rest + length extra ≤ MOST_HELD
  pub why : Why input.told (log_of packets ++ rest) (length (log_of packets ++ rest)) limit
      rest extra how

-- a write failed once the input had stopped: a part of what it means is out
pub record BrokeEnding (job : RecordsJob) (limit : ℕ) (input : Flow) (packets : List (List ℕ))
    (rest extra out : List ℕ) : Type 0 where
  pub how : RunEnd
  pub stopped : Stopped limit input packets rest extra how
  pub finished : how ≢ end.ReadFault
  pub within : IsPrefix out (job.whole packets)

-- a write failed: these octets went out, all that belongs to the records `done` among them
pub record Broke (job : RecordsJob) (limit : ℕ) (input output : Flow) : Type 0 where
  pub done : List (List ℕ)
  pub last : List (List ℕ)
  pub rest : List ℕ
  pub extra : List ℕ
  pub out : List ℕ
  pub took : Took limit input (done ++ last) rest extra
  pub near : length (log_of last ++ rest) + length extra ≤ MOST_HELD
  pub put : Appends output.told output.told' out
  pub most : done ≢ [] → IsPrefix (job.early done) out
  pub part : IsPrefix out (job.early (done ++ last))
      ⊎ BrokeEnding job limit input (done ++ last) rest extra out
