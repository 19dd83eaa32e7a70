-- How a run ends once no more records come.
use Rattle.std.proofs.Common.{◌≡◌, ◌≢◌, ℕ, List, [], ◌++◌, refl, sym, ap, subst, ◌∙◌, arith, inr, append-nil}
use Rattle.std.specs.Prelude.{Option, Some, ◌⊎◌}
use Rattle.std.specs.Io.KnownBytes.{Appends}
use Rattle.std.proofs.KnownBytes.{Appends-trans}
use Rattle.amr_io.specs.declared.sink.Sink as sink
use Rattle.amr_io.specs.declared.source.Source as source
use Rattle.log_engine.proofs.FaultLemmas.{faults_on}
use Rattle.log_engine.proofs.Growing.{EarlyGrows, WholeGrows}
use Rattle.log_engine.proofs.OutLemmas.{all_written, none_waits, out_within, prefix_refl}
use Rattle.log_engine.proofs.ProgressLemmas.{Ready, broken_turn, halted_turn}
use Rattle.log_engine.proofs.WorksLemmas.{finished_works}
use Rattle.log_engine.specs.Progress.{After, Halted}
use Rattle.log_engine.specs.Puts.{Puts, PutsPart}
use Rattle.log_engine.specs.Run.{Broke, BrokeEnding, Took}
use Rattle.log_engine.specs.Tray.{Grows}
use Rattle.log_engine.specs.Turns.{State, Turned, logical, sent}
use Rattle.log_engine.specs.declared.gather_sink.GatherSink.{GatherSink}
use Rattle.log_engine.specs.declared.handler.RecordHandler as handler
use Rattle.rtp_packet.specs.Reading.{limit_of, rest}
use Rattle.run_report.specs.declared.counts.Counts.{Counts}
use Rattle.run_report.specs.declared.end.RunEnd.{RunEnd}
use Rattle.run_report.specs.declared.end.RunEnd.TheVariants as end
use Rattle.spec_run.specs.Flows.{FaultsOf, Flow, read_from}
use Rattle.spec_run.specs.LogRuns.{RecordsJob, log_meaning}
use Rattle.spec_run.specs.Meanings.{IsPrefix, Works, work_of}

-- what a close put out and counted
pub record Closed (job : RecordsJob) (got got' : Option (List ℕ)) (counts : Counts)
    (packets : List (List ℕ)) : Type 0 where
  pub put : Appends got got' (job.whole packets)
  pub counted : counts ≡ job.counts packets

module _ {H A B : Type 0} (h : handler.Ghosts H) (s : source.Ghosts A) (k : sink.Ghosts B) where
  -- where a run stands after its last turn
  pub after_turn : (first now next : State H A B) (how : RunEnd)
      → EarlyGrows (h.job first.handler)
      → Ready h s k first now → h.job now.handler ≡ h.job first.handler
      → limit_of now.reader ≡ limit_of first.reader
      → Grows (k.got now.sink.output.now) (k.got next.sink.output.now)
      → Turned h s k now next (Some how) → After h s k first next how
  after_turn first now next end.WriteFault grow r job limit grown t =
      broken_turn h s k first now next grow r job limit grown t
  after_turn first now next end.Done grow r job limit grown t =
      halted_turn h s k first now next end.Done r limit t
  after_turn first now next (end.LogCut have) grow r job limit grown t =
      halted_turn h s k first now next (end.LogCut have) r limit t
  after_turn first now next end.LimitReached grow r job limit grown t =
      halted_turn h s k first now next end.LimitReached r limit t
  after_turn first now next end.ReadFault grow r job limit grown t =
      halted_turn h s k first now next end.ReadFault r limit t
  after_turn first now next _ grow r job limit grown t = absurd t

  -- a run stopped unless a write failed
  pub halted_of : (first now : State H A B) (how : RunEnd)
      → After h s k first now how → how ≢ end.WriteFault → Halted h s k first now how
  halted_of first now end.Done after no_fault = after
  halted_of first now (end.LogCut have) after no_fault = after
  halted_of first now end.LimitReached after no_fault = after
  halted_of first now end.ReadFault after no_fault = after
  halted_of first now end.WriteFault after no_fault = absurd (no_fault refl)
  halted_of first now _ after no_fault = absurd after

  -- no run wants memory
  pub never_memory : (first now : State H A B) (how : RunEnd) → After h s k first now how
      → how ≢ end.OutOfMemory
  never_memory first now how after e = subst (After h s k first now) e after

  -- what was put out in all and counted, once a run was closed
  pub closed_put : (first now : State H A B) (how : RunEnd) (by : H) (to : GatherSink B)
      → (halt : Halted h s k first now how) → h.job now.handler ≡ h.job first.handler
      → to.gather.now.waiting ≡ []
      → ((hs : List (List ℕ)) → h.stands now.handler hs
      → (h.counts by ≡ (h.job now.handler).counts hs)
      × Puts (logical k.got now.sink) (logical k.got to) ((h.job now.handler).early hs)
      ((h.job now.handler).whole hs))
      → Closed (h.job first.handler) (k.got first.sink.output.now) (k.got to.output.now)
      (h.counts by) halt.packets
  closed_put first now how by to halt same_job none close =
      let job : RecordsJob = h.job first.handler in
      let got : Option (List ℕ) = k.got first.sink.output.now in
      let out : Option (List ℕ) = logical k.got now.sink in
      let out' : Option (List ℕ) = logical k.got to in
      let hs : List (List ℕ) = halt.packets in
      let both = close hs halt.stood in
      let puts : Puts out out' (job.early hs) (job.whole hs) =
      subst (λ (j : RecordsJob). Puts out out' (j.early hs) (j.whole hs)) same_job both.1 in
      let is : out ≡ k.got now.sink.output.now =
      none_waits (k.got now.sink.output.now) now.sink.gather.now.waiting halt.empty in
      let before : Appends got out (job.early hs) =
      subst (λ o. Appends got o (job.early hs)) (sym is) halt.put in
      let more = Appends-trans got out out' (job.early hs) puts.more before puts.put in
      let put : Appends got out' (job.whole hs) = subst (Appends got out') (sym puts.grown) more in
      record {
        put = all_written got (k.got to.output.now) to.gather.now.waiting (job.whole hs) none put;
        counted = both.0 ∙ ap (λ (j : RecordsJob). j.counts hs) same_job;
      }

  -- a run that broke while it was closed
  pub closed_broken : (first now : State H A B) (how : RunEnd) (to : GatherSink B)
      → WholeGrows (h.job first.handler)
      → Halted h s k first now how → how ≢ end.ReadFault → h.job now.handler ≡ h.job first.handler
      → Grows (k.got now.sink.output.now) (k.got to.output.now)
      → ((hs : List (List ℕ)) → h.stands now.handler hs
      → PutsPart (logical k.got now.sink) (logical k.got to)
      ((h.job now.handler).early hs) ((h.job now.handler).whole hs))
      → Broke (h.job first.handler) (limit_of first.reader) (read_from s first.input now.input)
      (sent k first.sink to)
  closed_broken first now how to grow halt finished same_job grown close =
      let job : RecordsJob = h.job first.handler in
      let limit : ℕ = limit_of first.reader in
      let input : Flow = read_from s first.input now.input in
      let left : List ℕ = rest now.reader in
      let got : Option (List ℕ) = k.got first.sink.output.now in
      let got' : Option (List ℕ) = k.got now.sink.output.now in
      let out : Option (List ℕ) = logical k.got now.sink in
      let out' : Option (List ℕ) = logical k.got to in
      let hs : List (List ℕ) = halt.packets in
      let puts : PutsPart out out' (job.early hs) (job.whole hs) =
      subst (λ (j : RecordsJob). PutsPart out out' (j.early hs) (j.whole hs)) same_job
      (close hs halt.stood) in
      let is : out ≡ got' = none_waits got' now.sink.gather.now.waiting halt.empty in
      let before : Appends got out (job.early hs) =
      subst (λ o. Appends got o (job.early hs)) (sym is) halt.put in
      let put = Appends-trans got out out' (job.early hs) puts.part before puts.put in
      let same : hs ++ [] ≡ hs = append-nil hs in
      let base : IsPrefix (job.early hs) (job.whole hs) =
      subst (λ l. IsPrefix (job.early hs) (job.whole l)) same (grow hs []) in
      let all = out_within got got' (k.got to.output.now) to.gather.now.waiting (job.early hs)
      (job.early hs ++ puts.part) (job.whole hs) (job.early hs) halt.put
      (prefix_refl (job.early hs)) grown put puts.within base in
      let ending : BrokeEnding job limit input hs left halt.extra all.out =
      record { how = how; stopped = halt.stopped; finished = finished; within = all.within } in
      record {
        done = hs;
        last = [];
        rest = left;
        extra = halt.extra;
        out = all.out;
        took = subst (λ l. Took limit input l left halt.extra) (sym same) halt.stopped.took;
        near = omega (arith, halt.stopped.near);
        put = all.put;
        most = λ _. all.begins;
        part = subst (λ l. IsPrefix all.out (job.early l) ⊎ BrokeEnding job limit input l left
            halt.extra all.out) (sym same) (inr ending);
      }

  -- a run that was closed did what its job means
  pub closed_works : (first now : State H A B) (how : RunEnd) (by : H) (to : GatherSink B)
      → After h s k first now how → how ≢ end.ReadFault → how ≢ end.WriteFault
      → FaultsOf how (read_from s first.input now.input) (sent k first.sink now.sink)
      → k.faults to.output.now ≡ k.faults now.sink.output.now
      → h.job now.handler ≡ h.job first.handler → to.gather.now.waiting ≡ []
      → ((hs : List (List ℕ)) → h.stands now.handler hs
      → (h.counts by ≡ (h.job now.handler).counts hs)
      × Puts (logical k.got now.sink) (logical k.got to) ((h.job now.handler).early hs)
      ((h.job now.handler).whole hs))
      → Works (log_meaning (limit_of first.reader) (h.job first.handler))
      (work_of s k first.input now.input first.sink.output.now to.output.now
      (record { end = how; counts = h.counts by }))
  closed_works first now how by to after no_read no_write faults cause same_job none close =
      let halt = halted_of first now how after no_write in
      let put = closed_put first now how by to halt same_job none close in
      let input : Flow = read_from s first.input now.input in
      let ended = faults_on how input input (sent k first.sink now.sink) (sent k first.sink to)
      (record { before = refl; after = refl }) (record { before = refl; after = cause }) faults in
      finished_works (h.job first.handler) (limit_of first.reader) _ halt.packets
      (rest now.reader) halt.extra halt.stopped no_read put.put put.counted ended
