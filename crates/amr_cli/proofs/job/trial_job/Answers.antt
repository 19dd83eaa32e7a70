use Rattle.std.proofs.Common.{◌≡◌, ◌∙◌, ◌&&◌, None, Some, ap, arith, is_none, option_map, sym}
use Rattle.amr_cli.proofs.Plans.{a_recording, no_recording, none_by, some_by}
use Rattle.amr_cli.specs.Jobs.{job_in, received_by}
use Rattle.amr_frame.specs.First.{when}
use Rattle.command_words.specs.Asked.{recording_of, sending_of, trial_of}
use Rattle.spec_jobs.specs.Jobs.{RunTrial}
use Rattle.spec_sending.specs.Plans.{plan_fault}
use Rattle.amr_cli.proofs.job.trial_job.Goals as goal

pub returns-in_err-plan-clause-job : goal.returns-in_err-plan-clause-job
returns-in_err-plan-clause-job c =
    let w = c.args.values.now in
    let r = recording_of w.received in
    let s = sending_of w.received.max_blocks w.sent in
    let none = no_recording c.receiver_plan.result w.received.pt r c.in_err-plan.was c.receiver_plan.ensures.plan in
    let gone : c.from_residual.result ≡ None = grind arith in
    ap (option_map job_in) gone ∙ sym (ap (λ b. when (b && is_none (plan_fault s)) (RunTrial (trial_of w))) none)

pub returns-in_err-send-clause-job : goal.returns-in_err-send-clause-job
returns-in_err-send-clause-job c =
    let w = c.args.values.now in
    let r = recording_of w.received in
    let s = sending_of w.received.max_blocks w.sent in
    let heard = a_recording c.receiver_plan.result w.received.pt r c.in_ok-plan.plan c.in_ok-plan.was c.receiver_plan.ensures.plan in
    let none = none_by (is_none (plan_fault s)) s (sym c.in_err-send.was ∙ c.sender_plan.ensures.plan) in
    let gone : c.from_residual-in_err-send.result ≡ None = grind arith in
    ap (option_map job_in) gone ∙ sym (λ i. when (heard.0 i && none i) (RunTrial (trial_of w)))

pub returns-clause-job : goal.returns-clause-job
returns-clause-job c =
    let w = c.args.values.now in
    let r = recording_of w.received in
    let s = sending_of w.received.max_blocks w.sent in
    let heard = a_recording c.receiver_plan.result w.received.pt r c.in_ok-plan.plan c.in_ok-plan.was c.receiver_plan.ensures.plan in
    let sent = some_by (is_none (plan_fault s)) s c.in_ok-send.send (sym c.in_ok-send.was ∙ c.sender_plan.ensures.plan) in
    let seed : c.from.result ≡ w.seed = grind arith in
    let any : received_by None c.in_ok-plan.plan ≡ r =
    ap (λ pt. received_by pt c.in_ok-plan.plan) (sym c.requires.within.4) ∙ heard.1 in
    (λ i. Some (RunTrial (record { count = w.count; seed = seed i; sending = sent.1 i; recording = any i })))
    ∙ sym (λ i. when (heard.0 i && sent.0 i) (RunTrial (trial_of w)))
