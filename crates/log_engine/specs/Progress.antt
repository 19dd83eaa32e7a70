-- What holds between two records of a run, and where it stands when no more comes. It is ours.
use Rattle.std.specs.Prelude.{◌≡◌, ℕ, ◌≤◌, List, [], ◌++◌, length}
use Rattle.std.specs.Io.KnownBytes.{Appends, append_known}
use Rattle.amr_io.specs.declared.sink.Sink as sink
use Rattle.amr_io.specs.declared.source.Source as source
use Rattle.log_engine.specs.Run.{Broke, Stopped, Took}
use Rattle.log_engine.specs.Turns.{State, sent}
use Rattle.log_engine.specs.declared.handler.RecordHandler as handler
use Rattle.rtp_packet.specs.Reading.{limit_of, rest, taken_of}
use Rattle.run_report.specs.declared.end.RunEnd.{RunEnd}
use Rattle.run_report.specs.declared.end.RunEnd.TheVariants as end
use Rattle.spec_packet.specs.Log.{log_of}
use Rattle.spec_run.specs.Flows.{Flow, read_from}
use Rattle.spec_run.specs.LogRuns.{MOST_HELD, RecordsJob}
use Rattle.spec_run.specs.Meanings.{IsPrefix}

-- these octets and perhaps more were written
pub record Wrote (output : Flow) (octets : List ℕ) : Type 0 where
  pub out : List ℕ
  pub put : Appends output.told output.told' out
  pub begins : IsPrefix octets out

-- `done` and `last` were handled; all that belongs to `done` is written, and `last` and the rest
-- were held at the last read
pub record Progress (job : RecordsJob) (limit : ℕ) (input output : Flow) (waiting rest : List ℕ)
    (done last : List (List ℕ)) : Type 0 where
  pub took : Took limit input (done ++ last) rest []
  pub near : length (log_of last ++ rest) ≤ MOST_HELD
  pub put : Appends output.told (append_known output.told' waiting) (job.early (done ++ last))
  pub written : Wrote output (job.early done)

-- a run that began at the first state goes on at the second
pub record Underway {H A B : Type 0} (h : handler.Ghosts H) (s : source.Ghosts A)
    (k : sink.Ghosts B) (first now : State H A B) : Type 0 where
  pub done : List (List ℕ)
  pub last : List (List ℕ)
  pub stood : h.stands now.handler (done ++ last)
  pub progress : Progress (h.job first.handler) (limit_of first.reader)
      (read_from s first.input now.input) (sent k first.sink now.sink)
      now.sink.gather.now.waiting (rest now.reader) done last
  pub size : length (log_of (done ++ last) ++ rest now.reader) ≡ taken_of now.reader

-- a run that began at the first state stopped at the second, where no record came: all is written
-- that is early
pub record Halted {H A B : Type 0} (h : handler.Ghosts H) (s : source.Ghosts A)
    (k : sink.Ghosts B) (first now : State H A B) (how : RunEnd) : Type 0 where
  pub packets : List (List ℕ)
  pub extra : List ℕ
  pub stopped : Stopped (limit_of first.reader) (read_from s first.input now.input) packets
      (rest now.reader) extra how
  pub stood : h.stands now.handler packets
  pub put : Appends (k.got first.sink.output.now) (k.got now.sink.output.now)
      ((h.job first.handler).early packets)
  pub empty : now.sink.gather.now.waiting ≡ []

-- where a run stands after its last turn, by its end
abbrev pub After : {H A B : Type 0} → handler.Ghosts H → source.Ghosts A → sink.Ghosts B
    → State H A B → State H A B → RunEnd → Type 0
After h s k first now end.WriteFault = Broke (h.job first.handler) (limit_of first.reader)
    (read_from s first.input now.input) (sent k first.sink now.sink)
After h s k first now end.Done = Halted h s k first now end.Done
After h s k first now (end.LogCut have) = Halted h s k first now (end.LogCut have)
After h s k first now end.LimitReached = Halted h s k first now end.LimitReached
After h s k first now end.ReadFault = Halted h s k first now end.ReadFault
After h s k first now _ = ⊥
