-- What went out, as octets.
use Rattle.std.proofs.Common.{◌≡◌, ℕ, List, ◌++◌, ap, ◌∙◌, sym, subst, append_assoc, Option, Result}
use Rattle.std.specs.Prelude.{flat_map}
use Rattle.std.proofs.lemmas.Grind.{flat_map-append}
use Rattle.amr_frame.specs.Frames.{Frame}
use Rattle.amr_io.specs.Fault.{HasCause}
use Rattle.amr_io.specs.declared.sink.Sink as sink
use Rattle.amr_gateway.specs.Wrote.{Gained, GainedPart}
use Rattle.record_hearing.specs.declared.job.RecordJob.{RecordJob}
use Rattle.amr_playout.specs.Gains.{Gains, GainsPart}
use Rattle.amr_store.proofs.Got.{wrote_blocks, wrote_front}
use Rattle.amr_store.specs.Written.{SameSink, WroteBlock, WrotePart}
use Rattle.amr_store.specs.declared.writer.StoreWriter.{StoreWriter}
use Rattle.log_engine.specs.Puts.{CallStep, Puts, PutsPart}
use Rattle.spec_run.specs.LogRuns.{RecordsJob}
use Rattle.spec_store.specs.StorageFile.{block_text, header, storage_file}

-- the octets of more blocks
pub text_more : (job : RecordJob) (less more blocks : List (List Frame)) → more ≡ less ++ blocks
    → storage_file job.plan.profile.codec job.plan.profile.channels more ≡ storage_file job.plan.profile.codec job.plan.profile.channels less ++ flat_map block_text blocks
text_more job less more blocks e =
    let head = header job.plan.profile.codec job.plan.profile.channels in
    ap (storage_file job.plan.profile.codec job.plan.profile.channels) e ∙ ap (λ t. head ++ t) (flat_map-append block_text less blocks) ∙ sym (append_assoc head (flat_map block_text less) (flat_map block_text blocks))

-- a writer of storage files got the octets of the blocks that its sink of blocks got
pub gained : {O : Type 0} (got : O → Option (List ℕ)) (beside : O → Option (List (List ℕ × List ℕ))) (same : O → O → Type 0) → ((s : O) → same s s) → ((a b c : O) → same a b → same b c → same a c)
    → (v w : StoreWriter O) (less more : List (List Frame)) → Gains (WroteBlock got beside same) v w less more → Gained (got v.sink.now) (got w.sink.now) less more
gained got beside same r t v w less more g = record {
  blocks = g.blocks;
  octets = (wrote_blocks got beside same r t v g.blocks w g.got).octets_are;
  more_by = g.more_by;
}

pub gained_part : {O : Type 0} (got : O → Option (List ℕ)) (beside : O → Option (List (List ℕ × List ℕ))) (same : O → O → Type 0) → ((s : O) → same s s) → ((a b c : O) → same a b → same b c → same a c)
    → (v w : StoreWriter O) (less more : List (List Frame)) → GainsPart (WroteBlock got beside same) (WrotePart got beside same) v w less more → GainedPart (got v.sink.now) (got w.sink.now) less more
gained_part got beside same r t v w less more g =
    let f = (wrote_front got beside same r t v g.blocks w g.got).front in record {
      front = f.0;
      rest = f.1;
      blocks = g.blocks;
      octets = f.3;
      split = f.2;
      more_by = g.more_by;
    }

-- as octets of the file
abbrev file_text : RecordJob → List (List Frame) → List ℕ
file_text job blocks = storage_file job.plan.profile.codec job.plan.profile.channels blocks

module _ (job : RecordJob) (got got' : Option (List ℕ)) where
  pub puts_by : (less more : List (List Frame)) → Gained got got' less more
      → Puts got got' (file_text job less) (file_text job more)
  puts_by less more g = record {
    more = flat_map block_text g.blocks;
    put = g.octets;
    grown = text_more job less more g.blocks g.more_by;
  }

  pub puts_part_by : (less more : List (List Frame)) → GainedPart got got' less more
      → PutsPart got got' (file_text job less) (file_text job more)
  puts_part_by less more g =
      let before = file_text job less in record {
        part = g.front;
        put = g.octets;
        within = (
          g.rest,
          text_more job less more g.blocks g.more_by ∙ ap (λ t. before ++ t) g.split
              ∙ sym (append_assoc before g.front g.rest),
        );
      }

-- what a writer over a sink put is in the sink that was lent to it
module _ {O : Type 0} (k : sink.Ghosts O) (reflexive : (s : O) → k.same s s)
    (transitive : (a b c : O) → k.same a b → k.same b c → k.same a c) (job : RecordJob) (a o : O) (v w : StoreWriter O)
    (before : v.sink.now ≡ a) (after : o ≡ w.sink.now) where
  lent : (P : Option (List ℕ) → Option (List ℕ) → Type 0) → P (k.got v.sink.now) (k.got w.sink.now) → P (k.got a) (k.got o)
  lent P h = subst (λ x. P (k.got a) (k.got x)) (sym after) (subst (λ x. P (k.got x) (k.got w.sink.now)) before h)

  pub puts_all : (less more : List (List Frame)) → Gains (WroteBlock k.got k.beside k.same) v w less more
      → Puts (k.got a) (k.got o) (file_text job less) (file_text job more)
  puts_all less more g = lent (λ x y. Puts x y (file_text job less) (file_text job more))
      (puts_by job _ _ less more (gained k.got k.beside k.same reflexive transitive v w less more g))

  pub puts_some : (less more : List (List Frame)) → GainsPart (WroteBlock k.got k.beside k.same) (WrotePart k.got k.beside k.same) v w less more
      → PutsPart (k.got a) (k.got o) (file_text job less) (file_text job more)
  puts_some less more g = lent (λ x y. PutsPart x y (file_text job less) (file_text job more))
      (puts_part_by job _ _ less more (gained_part k.got k.beside k.same reflexive transitive v w less more g))

  -- a step of the writer is one of the sink
  pub step_at : {A E : Type 0} (job' : RecordsJob) (jobs : RecordsJob) (r : Result A E) → job' ≡ jobs
      → HasCause (k.faults v.sink.now) (k.faults w.sink.now) r → SameSink k.beside k.same v w → CallStep k jobs job' a o r
  step_at job' jobs r kept cause s = record {
    kept = kept;
    step = record {
      cause = subst (λ x. HasCause (k.faults a) (k.faults x) r) (sym after)
          (subst (λ x. HasCause (k.faults x) (k.faults w.sink.now) r) before cause);
      beside = ap k.beside after ∙ s.beside ∙ ap k.beside before;
      same = subst (k.same a) (sym after) (subst (λ t. k.same t w.sink.now) before s.object);
    };
  }
