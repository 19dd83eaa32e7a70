use Rattle.std.proofs.Common.{sym, ap, subst, ◌∙◌, OnErr}
use Rattle.std.specs.Prelude.{option_map}
use Rattle.amr_io.specs.Fault.{HasCause}
use Rattle.amr_io.specs.Told.{AppendsFront}
use Rattle.amr_sdp.specs.Answers.{chosen_said}
use Rattle.amr_sdp.specs.Offers.{offer_said}
use Rattle.answer_engine.specs.Jobs.{answering_of}
use Rattle.spec_offer.specs.Answers.{answer_text}
use Rattle.answer_engine.proofs.Replied.{not_written}
use Rattle.answer_engine.proofs.reply.reply.Goals as goal

pub returns-in-Err-clause-reply : goal.returns-in-Err-clause-reply
returns-in-Err-clause-reply g c =
    let a = answering_of c.args.job.now in
    let o = offer_said c.args.offer.now in
    let chosen = chosen_said c.in-Some.chosen in
    let got = g.O.Sink.got in
    let faults = g.O.Sink.faults in
    not_written a o chosen _ (sym (ap (option_map chosen_said) c.in-Some.is) ∙ c.choose_answer-answer.ensures.chosen)
    (subst (λ r. OnErr r (AppendsFront (got c.args.output.now) (got c.write_answer.new.sink)
    (answer_text o a.wanted a.port chosen))) c.in-Err.is
    c.write_answer.ensures.part)
    (subst
    (HasCause (faults c.args.output.now)
    (faults c.write_answer.new.sink)) c.in-Err.is c.write_answer.ensures.step.cause)
