use Rattle.std.proofs.Common.{rules, ◌≡◌, refl, sym, ap, subst, ◌∙◌, Ok, Err}
use Rattle.answer_engine.proofs.Replied.{answered, broke_writing, went_past}
use Rattle.answer_engine.specs.Jobs.{answering_of}
use Rattle.answer_engine.specs.Reading.{IsWhole, PassesLimit, ReadsWhole}
use Rattle.answer_engine.specs.Replies.{Replies}
use Rattle.spec_offer.specs.Offers.{offer_of}
use Rattle.spec_run.specs.Flows.{read_from}
use Rattle.spec_run.specs.Meanings.{work_of}
use Rattle.answer_engine.proofs.answer.answer_offer.Goals as goal

pub returns-in-Ok-answer_octets-clause-works : goal.returns-in-Ok-answer_octets-clause-works
returns-in-Ok-answer_octets-clause-works g c =
    let input = read_from g.I.Source c.args.input.now c.read_whole.new.input in
    let came = subst (ReadsWhole c.in-Ok.inlet.limit input c.read_whole.new.inlet.held)
    (c.in-Ok-All.is ∙ ap Ok c.in-Ok-All.field-0-is) c.read_whole.ensures in
    let same : c.held.result.now ≡ c.read_whole.new.inlet.held = search rules in
    answered (answering_of c.args.job.now) c.args.job.now.limit
    (work_of g.I.Source g.O.Sink c.args.input.now c.read_whole.new.input c.args.output.now
    c.answer_octets.new.output c.in-Ok-answer_octets.report) c.held.result.now
    (subst (λ n. IsWhole n input c.held.result.now) (ap (λ t. t.limit) c.in-Ok.ensures.fresh)
    (subst (IsWhole c.in-Ok.inlet.limit input) (sym same) came))
    c.in-Ok-answer_octets.ensures.reply

pub returns-in-Ok-All-clause-works : goal.returns-in-Ok-All-clause-works
returns-in-Ok-All-clause-works g c =
    let input = read_from g.I.Source c.args.input.now c.read_whole.new.input in
    let came = subst (ReadsWhole c.in-Ok.inlet.limit input c.read_whole.new.inlet.held)
    (c.in-Ok-All.is ∙ ap Ok c.in-Ok-All.field-0-is) c.read_whole.ensures in
    let same : c.held.result.now ≡ c.read_whole.new.inlet.held = search rules in
    broke_writing (answering_of c.args.job.now) c.args.job.now.limit
    (work_of g.I.Source g.O.Sink c.args.input.now c.read_whole.new.input c.args.output.now
    c.answer_octets.new.output c.ended-in-Err-NotWritten.result) c.held.result.now
    (ap (λ r. r.end) c.ended-in-Err-NotWritten.ensures)
    (subst (λ n. IsWhole n input c.held.result.now) (ap (λ t. t.limit) c.in-Ok.ensures.fresh)
    (subst (IsWhole c.in-Ok.inlet.limit input) (sym same) came))
    (subst
    (Replies (answering_of c.args.job.now)
    (offer_of c.held.result.now) g.O.Sink c.args.output.now c.answer_octets.new.output)
    (c.in-Err-NotWritten.is ∙ ap Err c.in-Err-NotWritten.field-0-is) c.answer_octets.ensures.reply)

pub returns-in-Ok-OverLimit-clause-works : goal.returns-in-Ok-OverLimit-clause-works
returns-in-Ok-OverLimit-clause-works g c =
    let input = read_from g.I.Source c.args.input.now c.read_whole.new.input in
    let came = subst (ReadsWhole c.in-Ok.inlet.limit input c.read_whole.new.inlet.held)
    (c.in-Ok-OverLimit.is ∙ ap Ok c.in-Ok-OverLimit.field-0-is) c.read_whole.ensures in
    went_past (answering_of c.args.job.now) c.args.job.now.limit
    (work_of g.I.Source g.O.Sink c.args.input.now c.read_whole.new.input c.args.output.now
    c.args.output.now c.ended-in-Ok-OverLimit.result) c.read_whole.new.inlet.held
    (ap (λ r. r.end) c.ended-in-Ok-OverLimit.ensures) (ap (λ r. r.counts) c.ended-in-Ok-OverLimit.ensures)
    (subst (λ n. PassesLimit n input c.read_whole.new.inlet.held) (ap (λ t. t.limit) c.in-Ok.ensures.fresh) came)
    refl refl
