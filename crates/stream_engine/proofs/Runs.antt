-- A run did what streaming means.
use Rattle.std.proofs.Common.{◌≡◌, ◌≢◌, ℕ, List, [], ◌++◌, length, refl, sym, ap, subst, ◌∙◌}
use Rattle.std.specs.Prelude.{Option, Some}
use Rattle.std.specs.Io.KnownBytes.{Appends}
use Rattle.std.proofs.KnownBytes.{Appends-nil, Appends-trans}
use Rattle.amr_frame.specs.Frames.{Frame}
use Rattle.amr_io.specs.Fault.{Rose}
use Rattle.amr_io.specs.declared.sink.Sink as sink
use Rattle.amr_io.specs.declared.source.Source as source
use Rattle.amr_sender.specs.Sender.{View}
use Rattle.amr_store.specs.Reading.{limit_of}
use Rattle.amr_store.specs.declared.reader.StoreReader.{StoreReader}
use Rattle.log_engine.proofs.FaultLemmas.{calm_at, failed_on, faults_on}
use Rattle.log_engine.proofs.GrowsLemmas.{Grows-through}
use Rattle.log_engine.proofs.OutLemmas.{all_written, out_within, prefix_refl}
use Rattle.log_engine.specs.Puts.{Puts, PutsPart}
use Rattle.log_engine.specs.Tray.{Grows}
use Rattle.log_engine.specs.Turns.{logical, sent as sent_by}
use Rattle.log_engine.specs.declared.gather_sink.GatherSink.{GatherSink}
use Rattle.run_report.specs.Ends.{IsFinished}
use Rattle.run_report.specs.Lines.{no_counts}
use Rattle.run_report.specs.declared.counts.Counts.{Counts}
use Rattle.run_report.specs.declared.end.RunEnd.{RunEnd}
use Rattle.run_report.specs.declared.end.RunEnd.TheVariants as end
use Rattle.run_report.specs.declared.report.RunReport.{RunReport}
use Rattle.spec_run.specs.Flows.{FaultsOf, read_from}
use Rattle.spec_run.specs.Meanings.{IsPrefix, Work, Works, work_of}
use Rattle.spec_sending.specs.Plans.{IsPlan}
use Rattle.spec_sending.specs.Sending.{sent}
use Rattle.spec_sending.specs.declared.plan.SendPlan.{SendPlan}
use Rattle.spec_stream.specs.Streaming.{begun_log, output_of, sent_log, stream_meaning}
use Rattle.stream_laws.proofs.Growing.{early_is_put}
use Rattle.stream_engine.specs.Progress.{After, Broke, Halted, MayStart, Start, State, start_of, state}
use Rattle.stream_engine.specs.Reading.{Means, Stopped, Why}
use Rattle.stream_engine.specs.Sends.{SendsRest, SendsRestPart}
use Rattle.stream_engine.proofs.Goes.{out_at_first}
use Rattle.stream_engine.proofs.Told.{left_of, none_left}

-- what an input means, of which no more blocks come
means_of : (s : SendPlan) (limit : ℕ) (told : Option (List ℕ)) (read : List ℕ) (b : List (List Frame))
    (how : RunEnd) → Why s limit told read b how → how ≢ end.ReadFault → (all : List ℕ) → told ≡ Some all
    → Means s limit all b how
means_of s limit told read b end.Done why ok all e = (why all e).means
means_of s limit told read b (end.File w) why ok all e = why all e
means_of s limit told read b end.LimitReached why ok all e = why all e
means_of s limit told read b end.ReadFault why ok all e = absurd (ok refl)
means_of s limit told read b _ why ok all e = absurd why

-- a run that stopped met no failed write, and had memory
not_written : (s : SendPlan) (limit : ℕ) (told told' : Option (List ℕ)) (b : List (List Frame)) (how : RunEnd)
    → Stopped s limit told told' b how → how ≢ end.WriteFault
not_written s limit told told' b how t e = subst (Why s limit told t.read b) e t.why

-- what is counted of these blocks
abbrev pub counts_for : SendPlan → List (List Frame) → Counts
counts_for s b = record no_counts { blocks = length b; sent = length (sent s b) }

-- a run that ended without a fault
pub finished_works : (s : SendPlan) (limit : ℕ) (w : Work) (b : List (List Frame))
    → Stopped s limit w.input.told w.input.told' b w.report.end → w.report.end ≢ end.ReadFault
    → Appends w.output.told w.output.told' (sent_log s b) → w.report.counts ≡ counts_for s b
    → FaultsOf w.report.end w.input w.output → Works (stream_meaning s limit) w
finished_works s limit w b t ok put counts faults = record {
  served = λ _ all e.
      let m = means_of s limit w.input.told t.read b w.report.end t.why ok all e in
      record {
        end = m.end;
        out = subst (λ l. Appends w.output.told w.output.told' (sent_log s l)) (sym m.blocks) put;
        counts = counts ∙ ap (counts_for s) (sym m.blocks);
      };
  leaves = record {
    nothing = λ _ done all e.
        let why = subst (Why s limit w.input.told t.read b) done t.why in
        none_left w.input.told w.input.told' all t.read e t.took (why all e).whole;
    untouched = λ never. absurd cc;
  };
  read_fault = λ e. absurd (ok e);
  write_fault = λ e. absurd (not_written s limit w.input.told w.input.told' b w.report.end t e);
  faults = faults;
}

-- a run whose read failed
pub read_works : (s : SendPlan) (limit : ℕ) (w : Work) (b : List (List Frame)) → IsPlan s
    → w.report.end ≡ end.ReadFault → Stopped s limit w.input.told w.input.told' b end.ReadFault
    → Appends w.output.told w.output.told' (begun_log s b)
    → FaultsOf w.report.end w.input w.output → Works (stream_meaning s limit) w
read_works s limit w b valid is t put faults = record {
  served = λ ok. absurd (subst IsFinished is ok);
  leaves = record { nothing = λ _ done. absurd cc; untouched = λ never. absurd cc };
  read_fault = λ _. record {
    read = t.read;
    out = begun_log s b;
    took = t.took;
    within = t.why.within;
    put = put;
    early = ap (begun_log s) (sym t.why.blocks);
    part = λ all e.
        let l = left_of w.input.told w.input.told' all t.read e t.took in
        let f = early_is_put s limit t.read l.more valid t.why.within in (
          f.0,
          ap (output_of s limit) l.joins ∙ f.1 ∙ ap (λ x. begun_log s x ++ f.0) t.why.blocks,
        );
  };
  write_fault = λ e. absurd cc;
  faults = faults;
}

-- a run whose write failed
pub write_works : (s : SendPlan) (limit : ℕ) (w : Work) → w.report.end ≡ end.WriteFault
    → Broke (record { plan = s; limit = limit; told = w.input.told; got = w.output.told }) w.input.told' w.output.told'
    → FaultsOf w.report.end w.input w.output → Works (stream_meaning s limit) w
write_works s limit w is b faults = record {
  served = λ ok. absurd (subst IsFinished is ok);
  leaves = record { nothing = λ _ done. absurd cc; untouched = λ never. absurd cc };
  read_fault = λ e. absurd cc;
  write_fault = λ _. record { read = b.read; out = b.out; took = b.took; put = b.put; near = tt; part = b.part };
  faults = faults;
}

module _ {A B : Type 0} (i : source.Ghosts A) (o : sink.Ghosts B) where
  -- a run stopped unless a write failed
  pub halted_of : (start : Start) (now : State A B) (how : RunEnd) → After i o start now how → how ≢ end.WriteFault
      → Halted i o start now how
  halted_of start now end.WriteFault after ok = absurd (ok refl)
  halted_of start now _ after ok = after

  pub after_of : (start : Start) (now : State A B) (how : RunEnd) → Halted i o start now how → how ≢ end.WriteFault
      → After i o start now how
  after_of start now end.WriteFault halt ok = absurd (ok refl)
  after_of start now _ halt ok = halt

  -- no run wants memory
  pub never_memory : (start : Start) (now : State A B) (how : RunEnd) → After i o start now how
      → how ≢ end.OutOfMemory
  never_memory start now how after e =
      let h : Halted i o start now end.OutOfMemory = subst (After i o start now) e after in h.stopped.why

  -- all is written once a run was closed
  pub closed_put : (start : Start) (now : State A B) (how : RunEnd) (v : View) (to : GatherSink B)
      → (halt : Halted i o start now how) → SendsRest now.sender v (logical o.got now.sink) (logical o.got to)
      → to.gather.now.waiting ≡ [] → Appends start.got (o.got to.output.now) (sent_log start.plan halt.blocks)
  closed_put start now how v to halt rest none =
      let b = halt.blocks in
      let puts = subst (λ (s : SendPlan). Puts (logical o.got now.sink) (logical o.got to) (begun_log s b) (sent_log s b))
      halt.plan (rest.out b halt.stands) in
      let more = Appends-trans start.got (logical o.got now.sink) (logical o.got to) (begun_log start.plan b) puts.more
      halt.out.put puts.put in
      all_written start.got (o.got to.output.now) to.gather.now.waiting (sent_log start.plan b) none
      (subst (Appends start.got (logical o.got to)) (sym puts.grown) more)

  -- and all is counted
  pub closed_counts : (start : Start) (now : State A B) (how : RunEnd) (v : View) (to : GatherSink B) (blocks : ℕ)
      → (halt : Halted i o start now how) → SendsRest now.sender v (logical o.got now.sink) (logical o.got to)
      → blocks ≡ now.sender.blocks
      → record no_counts { blocks = blocks; sent = v.packets } ≡ counts_for start.plan halt.blocks
  closed_counts start now how v to blocks halt rest same =
      let count = rest.count halt.blocks halt.stands ∙ ap (λ (s : SendPlan). length (sent s halt.blocks)) halt.plan in
      let all = same ∙ halt.stands.blocks in
      λ j. record no_counts { blocks = all j; sent = count j }

  -- a run that broke while it was closed
  pub closed_broke : (start : Start) (now : State A B) (how : RunEnd) (to : GatherSink B)
      → (halt : Halted i o start now how) → how ≢ end.ReadFault
      → SendsRestPart now.sender (logical o.got now.sink) (logical o.got to)
      → Grows (o.got now.sink.output.now) (o.got to.output.now)
      → Broke start (i.left now.input) (o.got to.output.now)
  closed_broke start now how to halt ok rest grown =
      let b = halt.blocks in
      let whole = sent_log start.plan b in
      let puts = subst (λ (s : SendPlan). PutsPart (logical o.got now.sink) (logical o.got to) (begun_log s b) (sent_log s b))
      halt.plan (rest.out b halt.stands) in
      let put = Appends-trans start.got (logical o.got now.sink) (logical o.got to) (begun_log start.plan b) puts.part
      halt.out.put puts.put in
      let grows = Grows-through start.got (o.got now.sink.output.now) (o.got to.output.now) halt.out.grown grown in
      let out = out_within start.got start.got (o.got to.output.now) to.gather.now.waiting []
      (begun_log start.plan b ++ puts.part) whole [] (Appends-nil start.got) (prefix_refl []) grows put puts.within (whole, refl) in
      record {
        read = halt.stopped.read;
        out = out.out;
        took = halt.stopped.took;
        put = out.put;
        part = λ all e.
            let m = means_of start.plan start.limit start.told halt.stopped.read b how halt.stopped.why ok all e in
            subst (λ l. IsPrefix out.out (sent_log start.plan l)) (sym m.blocks) out.within;
      }

  -- a run that ended with the header
  pub early_after : (first : State A B) (r : StoreReader) (x : A) (how : RunEnd)
      → MayStart first.sender first.reader first.sink
      → Stopped first.sender.plan (limit_of first.reader) (i.left first.input) (i.left x) [] how
      → After i o (start_of i o first) (state first.sender r x first.sink) how
  early_after first r x how may t =
      after_of (start_of i o first) (state first.sender r x first.sink) how (record {
        valid = may.plan;
        plan = refl;
        blocks = [];
        stopped = t;
        stands = may.stands;
        out = out_at_first i o first may.stands may.none may.empty;
        empty = λ e. may.empty;
      }) (not_written first.sender.plan (limit_of first.reader) (i.left first.input) (i.left x) [] how t)

  -- what a run did
  abbrev work : State A B → State A B → GatherSink B → RunReport → Work
  work first now to report = work_of i o first.input now.input first.sink.output.now to.output.now report

  abbrev pub Did : State A B → State A B → GatherSink B → RunReport → Type 0
  Did first now to report = Works (stream_meaning first.sender.plan (limit_of first.reader)) (work first now to report)

  abbrev pub report_of : RunEnd → ℕ → ℕ → RunReport
  report_of how blocks packets = record { end = how; counts = record no_counts { blocks = blocks; sent = packets } }

  pub read_did : (first now : State A B) (how : RunEnd) (counts : Counts) → how ≡ end.ReadFault
      → After i o (start_of i o first) now how
      → FaultsOf how (read_from i first.input now.input) (sent_by o first.sink now.sink)
      → Did first now now.sink (record { end = end.ReadFault; counts = counts })
  read_did first now how counts is after faults =
      let start = start_of i o first in
      let h : Halted i o start now end.ReadFault = subst (After i o start now) is after in
      let put = all_written start.got (o.got now.sink.output.now) now.sink.gather.now.waiting
      (begun_log start.plan h.blocks) (h.empty refl) h.out.put in
      read_works start.plan start.limit (work first now now.sink (record { end = end.ReadFault; counts = counts }))
      h.blocks h.valid refl h.stopped put
      (subst (λ e. FaultsOf e (read_from i first.input now.input) (sent_by o first.sink now.sink)) is faults)

  -- a run stopped so, and met no fault
  pub record Calmly (first now : State A B) (how : RunEnd) : Type 0 where
    pub after : After i o (start_of i o first) now how
    pub no_read : how ≢ end.ReadFault
    pub no_write : how ≢ end.WriteFault
    pub faults : FaultsOf how (read_from i first.input now.input) (sent_by o first.sink now.sink)

  pub closed_did : (first now : State A B) (how : RunEnd) (v : View) (to : GatherSink B) (blocks : ℕ)
      → Calmly first now how → SendsRest now.sender v (logical o.got now.sink) (logical o.got to)
      → to.gather.now.waiting ≡ [] → o.faults to.output.now ≡ o.faults now.sink.output.now
      → blocks ≡ now.sender.blocks → Did first now to (report_of how blocks v.packets)
  closed_did first now how v to blocks ran rest none calm same =
      let start = start_of i o first in
      let h = halted_of start now how ran.after ran.no_write in
      let input = read_from i first.input now.input in
      finished_works start.plan start.limit (work first now to (report_of how blocks v.packets)) h.blocks h.stopped
      ran.no_read (closed_put start now how v to h rest none) (closed_counts start now how v to blocks h rest same)
      (faults_on how input input (sent_by o first.sink now.sink) (sent_by o first.sink to)
      (record { before = refl; after = refl }) (record { before = refl; after = calm }) ran.faults)

  pub closing_did : (first now : State A B) (how : RunEnd) (to : GatherSink B) (counts : Counts)
      → Calmly first now how → SendsRestPart now.sender (logical o.got now.sink) (logical o.got to)
      → Grows (o.got now.sink.output.now) (o.got to.output.now)
      → Rose (o.faults now.sink.output.now) (o.faults to.output.now)
      → Did first now to (record { end = end.WriteFault; counts = counts })
  closing_did first now how to counts ran rest grown rose =
      let start = start_of i o first in
      let input = read_from i first.input now.input in
      let calm = calm_at how input (sent_by o first.sink now.sink) ran.no_read ran.no_write ran.faults in
      let failed = failed_on (sent_by o now.sink to) (sent_by o first.sink to)
      (record { before = calm.1; after = refl }) rose in
      write_works start.plan start.limit (work first now to (record { end = end.WriteFault; counts = counts })) refl
      (closed_broke start now how to (halted_of start now how ran.after ran.no_write) ran.no_read rest grown)
      (calm.0, failed)
