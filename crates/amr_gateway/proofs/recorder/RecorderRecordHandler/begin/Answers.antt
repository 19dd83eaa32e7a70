use Rattle.std.proofs.Common.{ap, sym, ◌∙◌, subst}
use Rattle.std.specs.Io.KnownBytes.{Appends}
use Rattle.std.proofs.lemmas.List.{append-nil}
use Rattle.record_hearing.proofs.Results.{on_err_then}
use Rattle.spec_store.specs.StorageFile.{header}
use Rattle.amr_gateway.proofs.recorder.RecorderRecordHandler.begin.Goals as goal

pub returns-clause-failed : goal.returns-clause-failed
returns-clause-failed g c =
    let profile = c.args.self.now.listener.job.plan.profile in
    let out = c.output-1.given.1 (sym (c.begin.ensures.same_reference ∙ c.new-writer.ensures.same_reference)) in
    on_err_then _ _ c.begin.result
    (λ part. record {
      part = part.0;
      put = subst (λ t. Appends (g.O.Sink.got c.args.output.now) (g.O.Sink.got t) part.0) (sym out)
          (subst (λ t. Appends (g.O.Sink.got t) (g.O.Sink.got c.begin.new.self.sink.now) part.0) c.new-writer.ensures.now part.3);
      within = (part.1, append-nil (header profile.codec profile.channels) ∙ ap (λ n. header profile.codec n) (sym c.new-writer.ensures.format.1) ∙ ap (λ k. header k c.new-writer.result.channels) (sym c.new-writer.ensures.format.0) ∙ part.2);
    })
    c.begin.ensures.part
