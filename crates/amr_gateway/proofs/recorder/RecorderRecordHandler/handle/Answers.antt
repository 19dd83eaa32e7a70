use Rattle.std.proofs.Common.{ap, ◌∙◌, sym}
use Rattle.std.proofs.lemmas.Result.{on_err_weaker, on_ok_weaker}
use Rattle.amr_gateway.proofs.Plans.{takes_at}
use Rattle.amr_gateway.proofs.Texts.{puts_all, puts_some, step_at}
use Rattle.record_hearing.proofs.Plans.{channels_within}
use Rattle.record_hearing.specs.Jobs.{recording_of}
use Rattle.spec_record.specs.RecordMeaning.{records_job}
use Rattle.amr_gateway.proofs.recorder.RecorderRecordHandler.handle.Goals as goal

pub resume-writer-requires : goal.resume-writer-requires
resume-writer-requires g c = channels_within c.args.self.now.listener.job.plan c.args.self.now.listener.served.served.plan

pub hear-requires-clause-sink : goal.hear-requires-clause-sink
hear-requires-clause-sink g c = record {
  ready = takes_at c.args.self.now.listener.job.plan c.resume-writer.result.stage c.resume-writer.result.channels c.args.self.now.listener.served.served.plan c.resume-writer.ensures.stage c.resume-writer.ensures.format.1;
  codec = c.resume-writer.ensures.format.0;
  channels = c.resume-writer.ensures.format.1;
}

pub returns-clause-done : goal.returns-clause-done
returns-clause-done g c =
    let out = c.output-1.given.1 (sym (c.hear.ensures.step.same.reference ∙ c.resume-writer.ensures.same_reference)) in
    on_ok_weaker c.hear.result
    (λ heard hs s. (
      heard.stands hs s,
      puts_all g.O.Sink g.met.O.Sink.reflexive g.met.O.Sink.transitive c.args.self.now.listener.job _ _ _ _ c.resume-writer.ensures.now out _ _ (heard.out hs s),
    ))
    c.hear.ensures.heard

pub returns-clause-failed : goal.returns-clause-failed
returns-clause-failed g c =
    let out = c.output-1.given.1 (sym (c.hear.ensures.step.same.reference ∙ c.resume-writer.ensures.same_reference)) in
    on_err_weaker c.hear.result
    (λ part hs s. puts_some g.O.Sink g.met.O.Sink.reflexive g.met.O.Sink.transitive c.args.self.now.listener.job _ _ _ _ c.resume-writer.ensures.now out _ _ (part.out hs s))
    c.hear.ensures.part

pub returns-clause-ready : goal.returns-clause-ready
returns-clause-ready g c = on_ok_weaker c.hear.result (λ heard. (heard.going, heard.one)) c.hear.ensures.heard

pub returns-clause-step : goal.returns-clause-step
returns-clause-step g c =
    let out = c.output-1.given.1 (sym (c.hear.ensures.step.same.reference ∙ c.resume-writer.ensures.same_reference)) in
    step_at g.O.Sink g.met.O.Sink.reflexive g.met.O.Sink.transitive c.args.self.now.listener.job _ _ _ _ c.resume-writer.ensures.now out _ _ c.hear.result
    (ap (λ j. records_job (recording_of j)) c.hear.ensures.job) c.hear.ensures.step.cause c.hear.ensures.step.same
