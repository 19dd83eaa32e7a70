use Rattle.std.proofs.Common.{◌≡◌, ◌∙◌, ◌&&◌, None, Some, ap, arith, is_none, option_map, sym}
use Rattle.amr_cli.proofs.Plans.{a_recording, no_recording, none_by, some_by}
use Rattle.amr_cli.specs.Jobs.{job_in}
use Rattle.amr_frame.specs.First.{when}
use Rattle.command_words.specs.Asked.{recording_of, sending_of}
use Rattle.spec_jobs.specs.Jobs.{ConvertLog}
use Rattle.spec_sending.specs.Plans.{plan_fault}
use Rattle.amr_cli.proofs.job.convert_job.Goals as goal

pub returns-in_err-plan-clause-job : goal.returns-in_err-plan-clause-job
returns-in_err-plan-clause-job c =
    let w = c.args.values.now in
    let r = recording_of w.received in
    let s = sending_of 64 w.sent in
    let none = no_recording c.receiver_plan.result w.received.pt r c.in_err-plan.was c.receiver_plan.ensures.plan in
    let gone : c.from_residual.result ≡ None = grind arith in
    ap (option_map job_in) gone ∙ sym (ap (λ b. when (b && is_none (plan_fault s)) (ConvertLog r s w.received.limit)) none)

pub returns-in_err-to-clause-job : goal.returns-in_err-to-clause-job
returns-in_err-to-clause-job c =
    let w = c.args.values.now in
    let r = recording_of w.received in
    let s = sending_of 64 w.sent in
    let heard = a_recording c.receiver_plan.result w.received.pt r c.in_ok-plan.plan c.in_ok-plan.was c.receiver_plan.ensures.plan in
    let none = none_by (is_none (plan_fault s)) s (sym c.in_err-to.was ∙ c.sender_plan.ensures.plan) in
    let gone : c.from_residual-in_err-to.result ≡ None = grind arith in
    ap (option_map job_in) gone ∙ sym (λ i. when (heard.0 i && none i) (ConvertLog r s w.received.limit))

pub returns-clause-job : goal.returns-clause-job
returns-clause-job c =
    let w = c.args.values.now in
    let r = recording_of w.received in
    let s = sending_of 64 w.sent in
    let heard = a_recording c.receiver_plan.result w.received.pt r c.in_ok-plan.plan c.in_ok-plan.was c.receiver_plan.ensures.plan in
    let sent = some_by (is_none (plan_fault s)) s c.in_ok-to.to (sym c.in_ok-to.was ∙ c.sender_plan.ensures.plan) in
    (λ i. Some (ConvertLog (heard.1 i) (sent.1 i) w.received.limit))
    ∙ sym (λ i. when (heard.0 i && sent.0 i) (ConvertLog r s w.received.limit))
