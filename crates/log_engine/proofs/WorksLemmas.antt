-- A run did what its job means.
use Rattle.std.proofs.Common.{◌≡◌, ◌≢◌, ℕ, List, ◌++◌, length, refl, sym, ap, subst, ◌∙◌, append-nil}
use Rattle.std.specs.Io.KnownBytes.{Appends, Consumes}
use Rattle.log_engine.proofs.Growing.{EarlyGrows, WholeGrows}
use Rattle.log_engine.proofs.ToldLemmas.{broke_near, broke_prefix, cut_is, nothing_left, read_front, says}
use Rattle.log_engine.specs.Run.{Broke, Stopped, Why}
use Rattle.run_report.specs.Ends.{IsFinished}
use Rattle.run_report.specs.declared.end.RunEnd.{RunEnd}
use Rattle.run_report.specs.declared.end.RunEnd.TheVariants as end
use Rattle.spec_packet.specs.Log.{cut, log_of}
use Rattle.spec_run.specs.Flows.{FaultsOf, Flow}
use Rattle.spec_run.specs.LogRuns.{RecordsJob, log_meaning}
use Rattle.spec_run.specs.Meanings.{Work, Works}

-- a run that stopped met no failed write
not_written : (limit : ℕ) (input : Flow) (hs : List (List ℕ)) (rest extra : List ℕ) (how : RunEnd)
    → Stopped limit input hs rest extra how → how ≢ end.WriteFault
not_written limit input hs rest extra how t e =
    subst (Why input.told (log_of hs ++ rest) (length (log_of hs ++ rest)) limit rest extra) e t.why

-- a run that ended without a fault
pub finished_works : (job : RecordsJob) (limit : ℕ) (w : Work) (hs : List (List ℕ))
    (rest extra : List ℕ)
    → Stopped limit w.input hs rest extra w.report.end → w.report.end ≢ end.ReadFault
    → Appends w.output.told w.output.told' (job.whole hs) → w.report.counts ≡ job.counts hs
    → FaultsOf w.report.end w.input w.output → Works (log_meaning limit job) w
finished_works job limit w hs rest extra t ok put counts faults = record {
  served = λ _ all e.
      let said = says limit w.input hs rest extra w.report.end t ok all e in
      record {
        end = said.ends;
        out = subst (λ l. Appends w.output.told w.output.told' (job.whole l))
            (sym said.records) put;
        counts = counts ∙ ap job.counts (sym said.records);
      };
  leaves = record {
    nothing = λ _ done. nothing_left limit w.input hs rest extra
        (subst (Stopped limit w.input hs rest extra) done t);
    untouched = λ never. absurd cc;
  };
  read_fault = λ e. absurd (ok e);
  write_fault = λ e. absurd (not_written limit w.input hs rest extra w.report.end t e);
  faults = faults;
}

-- a run whose read failed
pub read_works : (job : RecordsJob) (limit : ℕ) (w : Work) (hs : List (List ℕ))
    (rest extra : List ℕ)
    → WholeGrows job
    → w.report.end ≡ end.ReadFault → Stopped limit w.input hs rest extra end.ReadFault
    → Appends w.output.told w.output.told' (job.early hs)
    → FaultsOf w.report.end w.input w.output → Works (log_meaning limit job) w
read_works job limit w hs rest extra grow is t put faults =
    let read : List ℕ = log_of hs ++ rest in
    let took = subst (λ l. Consumes w.input.told w.input.told' (read ++ l)) t.why t.took.consumed in
    let records : (cut read).packets ≡ hs = (cut_is hs rest t.took.records t.partial).0 in
    record {
      served = λ ok. absurd (subst IsFinished is ok);
      leaves = record { nothing = λ _ done. absurd cc; untouched = λ never. absurd cc };
      read_fault = λ _. record {
        read = read;
        out = job.early hs;
        took = subst (Consumes w.input.told w.input.told') (append-nil read) took;
        within = t.took.within;
        put = put;
        early = ap job.early (sym records);
        part = read_front job limit w.input hs rest extra grow t.took;
      };
      write_fault = λ e. absurd cc;
      faults = faults;
    }

-- a run whose write failed
pub write_works : (job : RecordsJob) (limit : ℕ) (w : Work)
    → EarlyGrows job
    → WholeGrows job
    → w.report.end ≡ end.WriteFault → Broke job limit w.input w.output
    → FaultsOf w.report.end w.input w.output → Works (log_meaning limit job) w
write_works job limit w grow grow_whole is b faults =
    let read : List ℕ = (log_of (b.done ++ b.last) ++ b.rest) ++ b.extra in
    record {
      served = λ ok. absurd (subst IsFinished is ok);
      leaves = record { nothing = λ _ done. absurd cc; untouched = λ never. absurd cc };
      read_fault = λ e. absurd cc;
      write_fault = λ _. record {
        read = read;
        out = b.out;
        took = b.took.consumed;
        put = b.put;
        near = λ many. broke_near job limit w.input w.output grow b read refl many;
        part = broke_prefix job limit w.input w.output grow_whole b;
      };
      faults = faults;
    }
