use Rattle.std.proofs.Common.{◌≡◌, ◌∙◌, None, Some, ap, arith, is_none, option_map, sym}
use Rattle.amr_cli.proofs.Plans.{none_by, some_by}
use Rattle.amr_cli.specs.Jobs.{job_in}
use Rattle.amr_frame.specs.First.{when}
use Rattle.command_words.specs.Asked.{sending_of}
use Rattle.spec_jobs.specs.Jobs.{StreamFile}
use Rattle.spec_sending.specs.Plans.{plan_fault}
use Rattle.amr_cli.proofs.job.stream_job.Goals as goal

pub returns-in_err-plan-clause-job : goal.returns-in_err-plan-clause-job
returns-in_err-plan-clause-job c =
    let w = c.args.values.now in
    let s = sending_of 64 w in
    let none = none_by (is_none (plan_fault s)) s (sym c.in_err-plan.was ∙ c.sender_plan.ensures.plan) in
    let gone : c.from_residual.result ≡ None = grind arith in
    ap (option_map job_in) gone ∙ sym (ap (λ b. when b (StreamFile s w.limit)) none)

pub returns-clause-job : goal.returns-clause-job
returns-clause-job c =
    let w = c.args.values.now in
    let s = sending_of 64 w in
    let found = some_by (is_none (plan_fault s)) s c.in_ok-plan.plan (sym c.in_ok-plan.was ∙ c.sender_plan.ensures.plan) in
    (λ i. Some (StreamFile (found.1 i) w.limit)) ∙ sym (ap (λ b. when b (StreamFile s w.limit)) found.0)
