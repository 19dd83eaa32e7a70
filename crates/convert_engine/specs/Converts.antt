-- Where a conversion stands, and what a call of it changes. It is ours.
use Rattle.std.specs.Prelude.{◌≡◌, ℕ, ◌+◌, ◌++◌, List, [], ◌∷◌, Option}
use Rattle.amr_sender.specs.Sender.{StandsFor, View}
use Rattle.log_engine.specs.Puts.{Puts, PutsPart}
use Rattle.record_hearing.specs.Going.{IsGoing, IsNew as IsUnheard}
use Rattle.record_hearing.specs.Jobs.{recording_of}
use Rattle.record_hearing.specs.Listening.{HasHeard, gone_among, released_among}
use Rattle.record_hearing.specs.Tallies.{counted_in_all}
use Rattle.record_hearing.specs.declared.listener.Listener.{Listener}
use Rattle.run_report.specs.declared.counts.Counts.{Counts}
use Rattle.spec_record.specs.RecordCounts.{counts_of}
use Rattle.spec_stream.specs.Converting.{counts_from}
use Rattle.spec_stream.specs.Streaming.{begun_log, sent_log}

-- these records were heard, and what has gone out for them was sent
pub record Stands (l : Listener) (v : View) (records : List (List ℕ)) : Type 0 where
  pub heard : HasHeard l records
  pub sends : StandsFor v (gone_among l.job records)

-- no record was heard, and no block sent
pub record IsNew (l : Listener) (v : View) : Type 0 where
  pub heard : IsUnheard l.receiver l.tally
  pub sends : StandsFor v []
  pub none : v.packets ≡ 0

-- all that was counted: of the records, and the packets that were sent
abbrev pub counted : Listener → View → Counts
counted l v = record (counted_in_all l.tally l.receiver.counts) { sent = v.packets }

-- a record more was heard, and the packets that are begun by what goes out on it were put out
pub record Converts (l l' : Listener) (v v' : View) (octets : List ℕ)
    (got got' : Option (List ℕ)) : Type 0 where
  pub stands : (records : List (List ℕ)) → Stands l v records
      → Stands l' v' (records ++ octets ∷ [])
  pub out : (records : List (List ℕ)) → Stands l v records
      → Puts got got' (begun_log v.plan (gone_among l.job records))
      (begun_log v.plan (gone_among l.job (records ++ octets ∷ [])))
  pub going : IsGoing l'.receiver l'.tally
  pub one : l'.tally.packets ≡ l.tally.packets + 1

-- a part of these was put out
pub record ConvertsPart (l : Listener) (v : View) (octets : List ℕ) (got got' : Option (List ℕ))
    : Type 0 where
  pub out : (records : List (List ℕ)) → Stands l v records
      → PutsPart got got' (begun_log v.plan (gone_among l.job records))
      (begun_log v.plan (gone_among l.job (records ++ octets ∷ [])))

-- the session ended: the blocks that were held are sent too, as far as packets are begun by them
pub record Releases (l l' : Listener) (v v' : View) (got got' : Option (List ℕ)) : Type 0 where
  pub stands : (records : List (List ℕ)) → Stands l v records
      → StandsFor v' (released_among l.job records)
  pub out : (records : List (List ℕ)) → Stands l v records
      → Puts got got' (begun_log v.plan (gone_among l.job records))
      (begun_log v.plan (released_among l.job records))
  pub counts : (records : List (List ℕ)) → Stands l v records
      → counted_in_all l'.tally l'.receiver.counts ≡ counts_of (recording_of l.job) records

-- a part of these was put out
pub record ReleasesPart (l : Listener) (v : View) (got got' : Option (List ℕ)) : Type 0 where
  pub out : (records : List (List ℕ)) → Stands l v records
      → PutsPart got got' (begun_log v.plan (gone_among l.job records))
      (begun_log v.plan (released_among l.job records))

-- the log is sent to its end, and the counts are those of the records
pub record Closes (l l' : Listener) (v v' : View) (got got' : Option (List ℕ)) : Type 0 where
  pub out : (records : List (List ℕ)) → Stands l v records
      → Puts got got' (begun_log v.plan (gone_among l.job records))
      (sent_log v.plan (released_among l.job records))
  pub counts : (records : List (List ℕ)) → Stands l v records
      → counted l' v' ≡ counts_from (recording_of l.job) v.plan records

-- a part of the rest was put out
pub record ClosesPart (l : Listener) (v : View) (got got' : Option (List ℕ)) : Type 0 where
  pub out : (records : List (List ℕ)) → Stands l v records
      → PutsPart got got' (begun_log v.plan (gone_among l.job records))
      (sent_log v.plan (released_among l.job records))
